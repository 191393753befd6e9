use Rattle.std.proofs.Common.{◌≡◌, ◌⊎◌, inl, inr, ℕ, ◌∙◌, Bool, false, true, None, slice_index_or, sym, refl, arith}
use Rattle.std.proofs.lemmas.List.{length-set}
use Rattle.pd_port.specs.Port.{PortData}
use Rattle.pd_keep.specs.Following.{IsAway}
use Rattle.pd_keep.specs.Kept.{RunData, IsKnown, left_by}
use Rattle.pd_keep.proofs.Places.{each_more}
use Rattle.pd_keep.proofs.follow.stand_alike.Goals.{then-away-port, else-away-port}
use Rattle.pd_keep.proofs.follow.stand_alike.Goals as goal

pub loop-port-init : goal.loop-port-init
loop-port-init c = record { count = refl; known = λ p lt. absurd (omega arith) }

pub loop-port-preserved : goal.loop-port-preserved
loop-port-preserved c =
    let i = c.loop-port.invariant in
    let count = i.count in
    let old : RunData = c.args.old.now in
    record {
      count = length-set c.loop-port.alike c.loop-port.port _ ∙ count;
      known = each_more
          (λ (p : ℕ) (b : Bool). b ≡ true → IsAway c.args.away.now p
          ⊎ ((x : PortData) → IsKnown old.first old.moves p (slice_index_or c.args.places.now p None) x
          → x ≡ left_by old.first old.moves p))
          c.loop-port.alike c.loop-port.port c.if-away-port.alike false (omega arith) i.known
          (elim c.if-away-port.branch [
            | then-away-port w ↦ λ e. inl w.if-away-port.true
            | else-away-port w ↦ λ e. inr (w.leaves.ensures (sym w.alike-is ∙ e))
          ]);
    }
