use Rattle.std.proofs.Common.{◌≤◌, ◌-◌, length}
use Rattle.pd_scenario.specs.Places.{ArePast}
use Rattle.pd_scenario.proofs.by_time.passed.Given as goal

abbrev pub invariant-loop-place : goal.invariant-loop-place
invariant-loop-place l = record {
  up : l.fn.place ≤ l.place;
  within : l.place ≤ length l.order;
  past : ArePast l.order l.place l.at;
}

abbrev pub decreases-loop-place : goal.decreases-loop-place
decreases-loop-place l = length l.order - l.place
