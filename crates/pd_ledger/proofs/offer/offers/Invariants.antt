use Rattle.std.proofs.Common.{◌≡◌, map, take}
use Rattle.pd_ledger.specs.Offer.{offered}
use Rattle.pd_ledger.proofs.offer.offers.Given as goal

abbrev pub invariant-loop-i : goal.invariant-loop-i
invariant-loop-i l = take l.i l.currents ≡ map (offered l.free l.limit_ma) (take l.i l.supplies)
