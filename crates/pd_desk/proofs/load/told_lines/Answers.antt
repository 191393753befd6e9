use Rattle.std.proofs.Common.{arith}
use Rattle.pd_desk.proofs.LoadedLines.{told_all, told_more}
use Rattle.pd_desk.proofs.load.told_lines.Goals as goal

pub loop-line-preserved : goal.loop-line-preserved
loop-line-preserved g c = record {
  told = told_more _ _ _ _ g.row.N _ _ c.loop-line.number _ _ _ c.loop-line.invariant.told c.in-Some.ensures.lines
      (rw c.in_ok-at.ensures at c.in_ok-explain_line.ensures.text) c.in_ok-explain_line.ensures.after;
  count = omega (arith, c.in-Some.ensures.shorter, c.loop-line.invariant.count);
}

pub returns : goal.returns
returns g c = told_all _ _ _ g.row.N _ c.loop-line.number _ c.loop-line.invariant.told c.in_default.ensures.lines
