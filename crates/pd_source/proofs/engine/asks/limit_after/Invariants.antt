use Rattle.std.proofs.Common.{◌≡◌, drop}
use Rattle.pd_source.specs.Step.{limit_after}
use Rattle.pd_source.proofs.engine.asks.limit_after.Given as goal

abbrev pub invariant-loop-deed : goal.invariant-loop-deed
invariant-loop-deed l =
    limit_after (drop l.deed-index l.deeds) l.stimulus l.limit_then ≡ limit_after l.deeds l.stimulus l.fn.limit
