use Rattle.std.proofs.Common.{◌≡◌, fold, max}
use Rattle.pd_source.specs.Step.{powers}
use Rattle.pd_source.proofs.offer.greatest_power.Given as goal

abbrev pub invariant-loop-supply : goal.invariant-loop-supply
invariant-loop-supply l =
    (goal.iterator-loop-supply).can_next l.supply-iterator
    × (goal.iterator-loop-supply).is_finite l.supply-iterator
    × (fold max l.greatest (powers l.supply-iterator.a.rest.now l.supply-iterator.b.rest.now) ≡ fold max l.least
    (powers l.supplies l.currents))
