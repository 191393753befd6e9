use Rattle.std.proofs.Common.{sym}
use Rattle.std.specs.Str.Lines.{lines}
use Rattle.pd_desk.proofs.OwnLines.{more_told, all_told}
use Rattle.pd_desk.proofs.diff.push_own_lines.Goals as goal

pub loop-line-preserved : goal.loop-line-preserved
loop-line-preserved c =
    let told = c.in_ok-push_own_line.ensures (lines c.args.other.now) (sym (c.in_ok-others.ensures c.in-Some.line.now)) in
    more_told _ _ _ c.args.sign _ _ c.loop-line.rest.now _ c.loop-line.invariant c.in-Some.ensures.lines told

pub returns : goal.returns
returns c = all_told _ _ c.args.sign _ c.loop-line.rest.now c.loop-line.invariant c.in_default.ensures.lines
