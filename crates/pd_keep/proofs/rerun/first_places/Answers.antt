use Rattle.std.proofs.Common.{◌≡◌, ℕ, ◌∙◌, cond, false, Option, Some, None, slice_index_or, refl, arith}
use Rattle.std.proofs.lemmas.List.{length-set}
use Rattle.pd_keep.specs.declared.kept_move.Place.{Place}
use Rattle.pd_keep.specs.declared.kept_move.Place.TheVariants.{First}
use Rattle.pd_keep.proofs.Places.{each_more}
use Rattle.pd_keep.proofs.rerun.first_places.Goals as goal

pub loop-port-init : goal.loop-port-init
loop-port-init c = record { count = refl; are = λ p lt. absurd (omega arith) }

pub loop-port-preserved : goal.loop-port-preserved
loop-port-preserved c =
    let i = c.loop-port.invariant in
    let count = i.count in
    record {
      count = length-set c.loop-port.places c.loop-port.port _ ∙ count;
      are = each_more (λ (p : ℕ) (o : Option Place). o ≡ cond (slice_index_or c.args.alike p false) (Some First) None) c.loop-port.places
          c.loop-port.port c.first_place.result None (omega arith) i.are c.first_place.ensures;
    }
