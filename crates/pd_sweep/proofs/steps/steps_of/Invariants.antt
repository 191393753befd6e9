use Rattle.std.proofs.Common.{◌≡◌, ◌-◌, ◌≤◌, [], length, take}
use Rattle.std.specs.Prelude.{fold}
use Rattle.pd_sweep.specs.Along.{gathered}
use Rattle.pd_sweep.proofs.steps.steps_of.Given as goal

abbrev pub invariant-loop-index : goal.invariant-loop-index
invariant-loop-index g l = record {
  value : l.steps.items ≡ fold (gathered l.end) [] (take l.index (g.T.Runner.entries l.run));
  within : l.index ≤ length (g.T.Runner.entries l.run);
}

abbrev pub decreases-loop-index : goal.decreases-loop-index
decreases-loop-index g l = length (g.T.Runner.entries l.run) - l.index
