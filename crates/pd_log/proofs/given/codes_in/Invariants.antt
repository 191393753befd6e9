use Rattle.std.proofs.Common.{◌≡◌, length}
use Rattle.pd_log.specs.Parts.{parts}
use Rattle.pd_log.specs.Forms.{codes_in, with_codes}
use Rattle.pd_log.proofs.given.codes_in.Given as goal

abbrev pub invariant-loop-part : goal.invariant-loop-part
invariant-loop-part l = with_codes l.codes.items (codes_in (parts l.line)) ≡ codes_in (parts l.initial.line)

abbrev pub decreases-loop-part : goal.decreases-loop-part
decreases-loop-part l = length (parts l.line)
