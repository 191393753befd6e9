use Rattle.std.proofs.Common.{◌≡◌, ℕ, ◌-◌, ◌<◌, ◌≤◌, false, slice_index_or, length}
use Rattle.pd_keep.specs.Kept.{KeptData}
use Rattle.pd_keep.proofs.follow.next_followed.Given as goal

abbrev pub invariant-loop-at : goal.invariant-loop-at
invariant-loop-at l = record {
  from_on : l.from ≤ l.at;
  within : l.at ≤ length l.old.moves;
  none : (i : ℕ) (k : KeptData) → l.from ≤ i → i < l.at
      → slice_index_or l.away ((slice_index_or l.old.moves i k).port - 1) false ≡ false;
}

abbrev pub decreases-loop-at : goal.decreases-loop-at
decreases-loop-at l = length l.old.moves - l.at
