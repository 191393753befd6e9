use Rattle.std.proofs.Common.{ℕ, ◌<◌, ◌≤◌, ◌-◌, length, slice_index_or}
use Rattle.pd_keep.specs.Kept.{KeptData, rank_kept}
use Rattle.pd_keep.specs.Ranks.{IsBefore}
use Rattle.pd_keep.proofs.one_span.seek.Given as goal

abbrev pub invariant-loop-at : goal.invariant-loop-at
invariant-loop-at l = record {
  within : l.at ≤ length l.old.moves;
  passed : (i : ℕ) (k : KeptData) → i < l.at → IsBefore (rank_kept (slice_index_or l.old.moves i k)) l.rank;
}

abbrev pub decreases-loop-at : goal.decreases-loop-at
decreases-loop-at l = length l.old.moves - l.at
