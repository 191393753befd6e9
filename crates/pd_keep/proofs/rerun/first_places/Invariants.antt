use Rattle.std.proofs.Common.{◌≡◌, ℕ, ◌<◌, cond, false, Some, None, length, slice_index_or}
use Rattle.pd_keep.specs.declared.kept_move.Place.TheVariants.{First}
use Rattle.pd_keep.proofs.rerun.first_places.Given as goal

abbrev pub invariant-loop-port : goal.invariant-loop-port
invariant-loop-port l = record {
  count : length l.places ≡ 8;
  are : (p : ℕ) → p < l.port → slice_index_or l.places p None ≡ cond (slice_index_or l.alike p false) (Some First) None;
}
