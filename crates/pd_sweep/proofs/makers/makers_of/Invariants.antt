use Rattle.std.proofs.Common.{◌≡◌, ◌-◌, ◌≤◌, length, take}
use Rattle.std.specs.Prelude.{fold}
use Rattle.pd_sweep.specs.Along.{makers_after, nobody}
use Rattle.pd_sweep.proofs.makers.makers_of.Given as goal

abbrev pub invariant-loop-index : goal.invariant-loop-index
invariant-loop-index g l = record {
  value : l.makers ≡ fold (makers_after l.at) nobody (take l.index (g.T.Runner.entries l.run));
  within : l.index ≤ length (g.T.Runner.entries l.run);
}

abbrev pub decreases-loop-index : goal.decreases-loop-index
decreases-loop-index g l = length (g.T.Runner.entries l.run) - l.index
