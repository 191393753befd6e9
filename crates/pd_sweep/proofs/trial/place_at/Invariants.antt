use Rattle.std.proofs.Common.{◌-◌, ◌≤◌, length, take}
use Rattle.pd_sweep.specs.Trials.{AreBefore}
use Rattle.pd_sweep.proofs.trial.place_at.Given as goal

abbrev pub invariant-loop-low : goal.invariant-loop-low
invariant-loop-low g l = record {
  ordered : l.low ≤ l.high;
  within : l.high ≤ length (g.T.Runner.entries l.run);
  before : AreBefore l.at (take l.low (g.T.Runner.entries l.run));
}

abbrev pub decreases-loop-low : goal.decreases-loop-low
decreases-loop-low g l = l.high - l.low
