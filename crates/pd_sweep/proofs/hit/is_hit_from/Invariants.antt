use Rattle.std.proofs.Common.{◌≡◌, ◌-◌, ◌≤◌, drop, length}
use Rattle.std.specs.Prelude.{◌||◌}
use Rattle.pd_sweep.specs.Trials.{hit_from, is_hit}
use Rattle.pd_sweep.proofs.hit.is_hit_from.Given as goal

abbrev pub invariant-loop-index : goal.invariant-loop-index
invariant-loop-index g l = record {
  value : is_hit l.scenario.events l.target (g.T.Runner.entries l.run)
      ≡ (l.hit || hit_from l.scenario.events l.target l.watch (drop l.index (g.T.Runner.entries l.run)));
  within : l.index ≤ length (g.T.Runner.entries l.run);
}

abbrev pub decreases-loop-index : goal.decreases-loop-index
decreases-loop-index g l = length (g.T.Runner.entries l.run) - l.index
