use Rattle.std.proofs.Common.{◌≡◌, map, take}
use Rattle.pd_ledger.specs.Offer.{offered}
use Rattle.pd_ledger.proofs.offer.offer.Given as goal

abbrev pub invariant-loop-supply : goal.invariant-loop-supply
invariant-loop-supply l = l.currents.items ≡ map (offered l.free l.limit_ma) (take l.supply-index l.supply-items)
