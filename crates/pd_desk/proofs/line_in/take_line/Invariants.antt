use Rattle.std.proofs.Common.{◌≡◌, ◌-◌, ◌≤◌, length}
use Rattle.pd_desk.specs.Taking.{TakingLine}
use Rattle.pd_desk.proofs.line_in.take_line.Given as goal

abbrev pub invariant-loop-total : goal.invariant-loop-total
invariant-loop-total g l = record {
  taking : TakingLine (g.R.TextIn.left l.fn.reader) (g.R.TextIn.left l.reader) l.fn.total l.total l.line;
  reads : g.R.TextIn.failures l.reader ≡ g.R.TextIn.failures l.fn.reader;
  few : l.total ≤ 16777217;
  space : length l.space ≡ 1;
}

abbrev pub decreases-loop-total : goal.decreases-loop-total
decreases-loop-total g l = 16777217 - l.total
