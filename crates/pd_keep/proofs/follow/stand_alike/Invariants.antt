use Rattle.std.proofs.Common.{◌≡◌, ◌⊎◌, ℕ, ◌<◌, true, false, slice_index_or, length, None}
use Rattle.pd_port.specs.Port.{PortData}
use Rattle.pd_keep.specs.Following.{IsAway}
use Rattle.pd_keep.specs.Kept.{IsKnown, left_by}
use Rattle.pd_keep.proofs.follow.stand_alike.Given as goal

abbrev pub invariant-loop-port : goal.invariant-loop-port
invariant-loop-port l = record {
  count : length l.alike ≡ 8;
  known : (p : ℕ) → p < l.port → slice_index_or l.alike p false ≡ true
      → IsAway l.away p ⊎ ((x : PortData) → IsKnown l.old.first l.old.moves p (slice_index_or l.places p None) x
      → x ≡ left_by l.old.first l.old.moves p);
}
