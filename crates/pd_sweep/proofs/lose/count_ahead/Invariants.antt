use Rattle.std.proofs.Common.{◌-◌, ◌≤◌, length}
use Rattle.pd_sweep.proofs.LostLemmas.{AreAhead}
use Rattle.pd_sweep.proofs.lose.count_ahead.Given as goal

abbrev pub invariant-loop-count : goal.invariant-loop-count
invariant-loop-count l = record {
  within : l.count ≤ length l.script;
  ahead : AreAhead l.at l.script l.count;
}

abbrev pub decreases-loop-count : goal.decreases-loop-count
decreases-loop-count l = length l.script - l.count
