use Rattle.std.proofs.Common.{◌≡◌, ℕ, ◌<◌, false, true, None, length, slice_index_or}
use Rattle.pd_port.specs.Port.{PortData}
use Rattle.pd_keep.specs.Kept.{IsKnown, left_by}
use Rattle.pd_keep.proofs.rerun.alike_after.Given as goal

abbrev pub invariant-loop-port : goal.invariant-loop-port
invariant-loop-port l = record {
  count : length l.alike ≡ 8;
  known : (p : ℕ) → p < l.port → slice_index_or l.alike p false ≡ true → (x : PortData)
      → IsKnown l.old.first l.old.moves p (slice_index_or l.places p None) x → x ≡ left_by l.old.first l.old.moves p;
}
