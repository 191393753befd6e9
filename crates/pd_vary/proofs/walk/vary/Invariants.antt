use Rattle.std.proofs.Common.{◌≡◌, ◌≤◌}
use Rattle.pd_vary.proofs.RowLemmas.{Progress}
use Rattle.pd_vary.proofs.walk.vary.Given as goal

abbrev pub invariant-loop-row : goal.invariant-loop-row
invariant-loop-row g l = record {
  progress : Progress g.row.N l.scenario l.question l.row l.holding l.outcomes.items
      (g.W.TextOut.taken l.fn.writer) (g.W.TextOut.taken l.writer);
  few : l.holding ≤ l.row;
  counts : g.W.TextOut.failures l.writer ≡ g.W.TextOut.failures l.fn.writer;
}
