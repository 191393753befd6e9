use Rattle.std.proofs.Common.{◌≡◌, ◌≤◌, ◌+◌, ◌++◌, length}
use Rattle.pd_source.specs.Acts.{capabilities}
use Rattle.pd_source.proofs.offer.capabilities.Given as goal

abbrev pub invariant-loop-supply : goal.invariant-loop-supply
invariant-loop-supply l =
    (goal.iterator-loop-supply).can_next l.supply-iterator
    × (goal.iterator-loop-supply).is_finite l.supply-iterator
    × (l.objects.items ++ capabilities l.flagged l.supply-iterator.a.rest.now l.supply-iterator.b.rest.now ≡ capabilities l.unconstrained
    l.supplies l.currents)
    × (length l.objects.items + length l.supply-iterator.a.rest.now ≤ 7)
