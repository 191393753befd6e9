use Rattle.std.proofs.Common.{◌≡◌, ◌⊎◌, ◌≤◌, ◌-◌, ℕ, List, All, map}
use Rattle.pd_scenario.specs.Plan.{Plan}
use Rattle.pd_run.specs.Live.{StandsAfter}
use Rattle.pd_keep.specs.Kept.{KeptData, move_of, IsOwn}
use Rattle.pd_keep.specs.Places.{ArePlaced}
use Rattle.pd_keep.specs.Rerun.{IsSoFar, Costs, AreThose}
use Rattle.pd_keep.specs.Spans.{moves_of}
use Rattle.pd_keep.proofs.rerun.run_on.Given as goal

abbrev pub invariant-loop-at : goal.invariant-loop-at
invariant-loop-at g l = record {
  so_far : IsSoFar g.row.N l.plan l.spans l.at;
  stands : StandsAfter l.plan (moves_of l.spans) l.live;
  placed : ArePlaced g.row.N l.old l.places l.live;
  later : l.from ≤ l.at;
  within : l.at ≤ l.to;
  soon : (l.at ≡ l.to) ⊎ (l.at ≤ l.plan.end);
  rises : l.fn.meter ≤ l.meter;
  cost : (old : Plan) (all : List KeptData) (first : ℕ) → All (IsOwn old) all → AreThose all l.from l.to l.old.moves
      → Costs old (map move_of all) l.plan (moves_of l.fn.spans) first l.fn.meter
      → Costs old (map move_of all) l.plan (moves_of l.spans) first l.meter;
}

abbrev pub decreases-loop-at : goal.decreases-loop-at
decreases-loop-at g l = l.to - l.at
