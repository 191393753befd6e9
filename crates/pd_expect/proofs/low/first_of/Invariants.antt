use Rattle.std.proofs.Common.{◌≡◌, ℕ, ◌+◌, ◌-◌, ◌<◌, ◌≤◌, not}
use Rattle.pd_scenario.specs.Plans.{plan_of}
use Rattle.pd_expect.specs.Low.{is_enough}
use Rattle.pd_expect.proofs.low.first_of.Given as goal

abbrev pub invariant-loop-at : goal.invariant-loop-at
invariant-loop-at g l = record {
  after_start : l.from ≤ l.at;
  other_before : (t : ℕ) → l.from ≤ t → t < l.at →
      is_enough (plan_of l.scenario) (g.T.Runner.entries l.run) l.wanted t ≡ not l.enough;
}

abbrev pub decreases-loop-at : goal.decreases-loop-at
decreases-loop-at g l = l.to + 1 - l.at
