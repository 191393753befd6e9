use Rattle.std.proofs.Common.{◌-◌, ◌≤◌, ℕ, List, length}
use Rattle.pd_scenario.specs.Plan.{Plan}
use Rattle.pd_run.specs.Run.{Move}
use Rattle.pd_run.specs.StepsLeft.{steps_left}
use Rattle.pd_keep.specs.Following.{CanFollow, HasCome, IsOwnNext}
use Rattle.pd_keep.proofs.follow.follow_span.Given as goal

abbrev pub invariant-loop-course : goal.invariant-loop-course
invariant-loop-course g l = record {
  come : (a : Plan) (all past : List Move) (from : ℕ) → CanFollow g.row.N a all l.old l.plan past from l.fn.alike l.fn.share l.fn.live
      → HasCome g.row.N a all l.old l.plan past from (steps_left l.plan l.fn.live) l.fn.meter l.meter l.course l.live;
  own : IsOwnNext l.plan l.live l.old.to l.own;
  rises : l.fn.meter ≤ l.meter;
}

abbrev pub decreases-loop-course : goal.decreases-loop-course
decreases-loop-course g l = steps_left l.plan l.fn.live - length l.course.span.moves
