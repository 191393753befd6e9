use Rattle.std.proofs.Common.{ℕ, ◌+◌, ◌-◌, ◌<◌, ◌≤◌}
use Rattle.pd_expect.specs.OverTime.{Holds}
use Rattle.pd_expect.proofs.over_time.first_break.Given as goal

abbrev pub invariant-loop-at : goal.invariant-loop-at
invariant-loop-at g l =
    (l.from ≤ l.at) × ((t : ℕ) → l.from ≤ t → t < l.at → Holds l.port l.wanted (g.T.Runner.entries l.run) t)

abbrev pub decreases-loop-at : goal.decreases-loop-at
decreases-loop-at g l = l.to + 1 - l.at
