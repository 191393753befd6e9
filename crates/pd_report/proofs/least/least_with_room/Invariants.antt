use Rattle.std.proofs.Common.{◌≡◌}
use Rattle.pd_scenario.specs.Plans.{plan_of}
use Rattle.pd_report.specs.LeastMargin.{LeastSoFar}
use Rattle.pd_report.specs.Walk.{IsWalk, left_of}
use Rattle.pd_report.proofs.least.least_with_room.Given as goal

abbrev pub invariant-loop-walk : goal.invariant-loop-walk
invariant-loop-walk g l = record {
  walked : IsWalk (plan_of l.scenario) (g.T.Runner.entries l.run) l.walk;
  end_is : l.end ≡ (plan_of l.scenario).end;
  least : LeastSoFar (plan_of l.scenario) (g.T.Runner.entries l.run) l.walk.at l.least;
}

abbrev pub decreases-loop-walk : goal.decreases-loop-walk
decreases-loop-walk g l = left_of (plan_of l.scenario) (g.T.Runner.entries l.run) l.walk
