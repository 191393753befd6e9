use Rattle.std.proofs.Common.{inl, inr}
use Rattle.pd_source.proofs.Powers.{powers-ended}
use Rattle.pd_source.proofs.offer.greatest_power.Goals as goal

pub returns : goal.returns
returns c =
    let ends = powers-ended c.loop-supply.supply-iterator.a.rest.now c.loop-supply.supply-iterator.b.rest.now in
    elim c.in-None.ensures.steps [
      | inl p ↦ rw (ends (inl p.1.0)) at c.loop-supply.invariant.2
      | inr p ↦ rw (ends (inr p.1.0)) at c.loop-supply.invariant.2
    ]
