use Rattle.std.proofs.Common.{◌≡◌, drop}
use Rattle.pd_source.specs.Step.{makes_offer}
use Rattle.pd_source.proofs.engine.asks.makes_offer.Given as goal

abbrev pub invariant-loop-deed : goal.invariant-loop-deed
invariant-loop-deed l = makes_offer (drop l.deed-index l.deeds) ≡ makes_offer l.deeds
