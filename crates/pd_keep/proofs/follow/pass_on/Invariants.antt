use Rattle.std.proofs.Common.{◌≡◌, ◌-◌, ◌<◌, ◌≤◌, ◌++◌, ℕ, List, length, slice_index_or}
use Rattle.pd_scenario.specs.Plan.{Plan}
use Rattle.pd_run.specs.Run.{Move}
use Rattle.pd_keep.specs.Following.{HasCome, followed_to}
use Rattle.pd_keep.specs.Kept.{KeptData, left_by, moves_from}
use Rattle.pd_keep.proofs.follow.pass_on.Given as goal

abbrev pub invariant-loop-brief : goal.invariant-loop-brief
invariant-loop-brief g l = record {
  from_on : l.course.at ≤ l.at;
  within : l.at ≤ length l.old.moves;
  come : (a : Plan) (all past : List Move) (from most first meter : ℕ)
      → HasCome g.row.N a all l.old l.plan past from most first meter l.course l.fn.live
      → HasCome g.row.N a all l.old l.plan past from most first meter (followed_to l.course l.old.moves l.at) l.live;
  go : (i : ℕ) (k : KeptData) → l.course.at ≤ i → i < l.at → (slice_index_or l.old.moves i k).before
      ≡ left_by l.course.span.first (l.course.span.moves ++ moves_from l.old.moves l.course.at (i - l.course.at))
      ((slice_index_or l.old.moves i k).port - 1);
  dues : l.live.dues ≡ l.fn.live.dues;
}

abbrev pub decreases-loop-brief : goal.decreases-loop-brief
decreases-loop-brief g l = length l.old.moves - l.at
