use Rattle.std.proofs.Common.{◌≡◌, length}
use Rattle.pd_log.specs.Parts.{parts}
use Rattle.pd_log.proofs.parts.without_gaps.Given as goal

abbrev pub invariant-loop-rest : goal.invariant-loop-rest
invariant-loop-rest l = parts l.rest ≡ parts l.line

abbrev pub decreases-loop-rest : goal.decreases-loop-rest
decreases-loop-rest l = length l.rest
