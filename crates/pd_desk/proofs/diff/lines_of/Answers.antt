use Rattle.std.proofs.Common.{refl}
use Rattle.std.specs.Str.Lines.{lines}
use Rattle.pd_desk.proofs.FoundLines.{found_more, found_all}
use Rattle.pd_desk.proofs.diff.lines_of.Goals as goal

pub loop-line-preserved : goal.loop-line-preserved
loop-line-preserved c = λ line.
    found_more (λ other. other.now) line c.in-Some.line c.loop-line.found.keys c.insert.new.self.keys _ _ c.in-Some.line.now _ _
    c.in_ok-insert.ensures.added c.in_ok-insert.ensures.keys refl c.in-Some.ensures.lines (c.loop-line.invariant line)

pub returns : goal.returns
returns c = λ line. found_all _ (lines c.loop-line.rest.now) line _ c.in_default.ensures.lines (c.loop-line.invariant line)
