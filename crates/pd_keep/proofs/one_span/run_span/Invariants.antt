use Rattle.std.proofs.Common.{ℕ, ◌++◌, List, map, length, All, ◌≤◌, ◌<◌}
use Rattle.pd_scenario.specs.Plan.{Plan}
use Rattle.pd_run.specs.Run.{Move}
use Rattle.pd_run.specs.Live.{StandsAfter}
use Rattle.pd_run.specs.StepsLeft.{steps_left}
use Rattle.pd_run.specs.UpTo.{IsUpTo}
use Rattle.pd_keep.specs.Kept.{KeptData, move_of, IsOwn}
use Rattle.pd_keep.specs.Places.{ArePlaced}
use Rattle.pd_keep.specs.Rerun.{AreThose, Costs}
use Rattle.pd_keep.specs.Spans.{BeginsAfter}
use Rattle.pd_keep.proofs.Places.{AreLeft}
use Rattle.pd_keep.proofs.one_span.run_span.Given as goal

abbrev pub invariant-loop-port : goal.invariant-loop-port
invariant-loop-port g l = record {
  stands : (past : List Move) → StandsAfter l.plan past l.fn.live → StandsAfter l.plan (past ++ map move_of l.span.moves) l.live;
  own : All (IsOwn l.plan) l.span.moves;
  begun : (past : List Move) → StandsAfter l.plan past l.fn.live → BeginsAfter g.row.N l.plan past l.span;
  placed : ArePlaced g.row.N l.old l.places l.live;
  left : AreLeft g.row.N l.span l.live;
  earlier : All (λ m. m.due.time < l.to) (map move_of l.span.moves);
  later : (past : List Move) (from : ℕ) → StandsAfter l.plan past l.fn.live → IsUpTo l.plan past from
      → All (λ m. from ≤ m.due.time) (map move_of l.span.moves);
  rises : l.fn.meter ≤ l.meter;
  cost : (old_plan : Plan) (all : List KeptData) (past : List Move) (from : ℕ) → All (IsOwn old_plan) all
      → AreThose all from l.to l.old.moves → StandsAfter l.plan past l.fn.live → IsUpTo l.plan past from
      → Costs old_plan (map move_of all) l.plan (map move_of l.span.moves) l.fn.meter l.meter;
}

abbrev pub decreases-loop-port : goal.decreases-loop-port
decreases-loop-port g l = steps_left l.plan l.live
