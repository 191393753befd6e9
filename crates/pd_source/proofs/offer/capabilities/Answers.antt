use Rattle.std.proofs.Common.{inl, inr}
use Rattle.std.proofs.lemmas.List.{append-nil}
use Rattle.pd_source.proofs.Powers.{capabilities-ended}
use Rattle.pd_source.proofs.offer.capabilities.Goals as goal

pub returns : goal.returns
returns c =
    let ends = capabilities-ended c.loop-supply.flagged c.loop-supply.supply-iterator.a.rest.now c.loop-supply.supply-iterator.b.rest.now in
    elim c.in-None.ensures.steps [
      | inl p ↦ rw (ends (inl p.1.0), append-nil) at c.loop-supply.invariant.2
      | inr p ↦ rw (ends (inr p.1.0), append-nil) at c.loop-supply.invariant.2
    ]
