use Rattle.std.proofs.Common.{◌≡◌, ◌-◌, ◌*◌, ◌≤◌, length, take}
use Rattle.std.specs.Prelude.{fold}
use Rattle.pd_sweep.specs.Along.{mishaps_after, no_mishap}
use Rattle.pd_sweep.proofs.summary.mishaps_of.Given as goal

abbrev pub invariant-loop-index : goal.invariant-loop-index
invariant-loop-index g l = record {
  value : l.mishaps ≡ fold mishaps_after no_mishap (take l.index (g.T.Runner.entries l.run));
  within : l.index ≤ length (g.T.Runner.entries l.run);
  few : l.mishaps.faults ≤ 8 * l.index;
  few_resets : l.mishaps.hard_resets ≤ 8 * l.index;
}

abbrev pub decreases-loop-index : goal.decreases-loop-index
decreases-loop-index g l = length (g.T.Runner.entries l.run) - l.index
