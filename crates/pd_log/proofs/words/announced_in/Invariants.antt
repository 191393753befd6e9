use Rattle.std.proofs.Common.{◌≡◌, length}
use Rattle.pd_log.specs.Parts.{parts}
use Rattle.pd_log.specs.Words.{announced_in}
use Rattle.pd_log.proofs.words.announced_in.Given as goal

abbrev pub invariant-loop-part : goal.invariant-loop-part
invariant-loop-part l = announced_in (parts l.line) ≡ announced_in (parts l.initial.line)

abbrev pub decreases-loop-part : goal.decreases-loop-part
decreases-loop-part l = length (parts l.line)
