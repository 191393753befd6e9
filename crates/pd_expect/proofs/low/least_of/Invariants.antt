use Rattle.std.proofs.Common.{◌+◌, ◌-◌, ◌≤◌}
use Rattle.pd_scenario.specs.Plans.{plan_of}
use Rattle.pd_expect.proofs.LowLemmas.{IsLeastSoFar}
use Rattle.pd_expect.proofs.low.least_of.Given as goal

abbrev pub invariant-loop-at : goal.invariant-loop-at
invariant-loop-at g l = record {
  after_start : l.from ≤ l.at;
  least_is : IsLeastSoFar (plan_of l.scenario) (g.T.Runner.entries l.run) l.from l.to l.at l.least;
}

abbrev pub decreases-loop-at : goal.decreases-loop-at
decreases-loop-at g l = l.to + 1 - l.at
