use Rattle.std.proofs.Common.{◌≡◌, length}
use Rattle.pd_log.specs.Parts.{parts}
use Rattle.pd_log.specs.Begun.{numbered_in}
use Rattle.pd_log.proofs.begun.numbered_in.Given as goal

abbrev pub invariant-loop-part : goal.invariant-loop-part
invariant-loop-part l = numbered_in (parts l.line) ≡ numbered_in (parts l.initial.line)

abbrev pub decreases-loop-part : goal.decreases-loop-part
decreases-loop-part l = length (parts l.line)
