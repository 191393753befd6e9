use Rattle.std.proofs.Common.{◌≡◌, length}
use Rattle.pd_log.specs.Bytes.{bytes_in}
use Rattle.pd_log.specs.Parts.{parts}
use Rattle.pd_log.specs.Words.{with_objects}
use Rattle.pd_log.proofs.bytes.bytes_in.Given as goal

abbrev pub invariant-loop-part : goal.invariant-loop-part
invariant-loop-part l = with_objects l.bytes.items (bytes_in (parts l.line)) ≡ bytes_in (parts l.initial.line)

abbrev pub decreases-loop-part : goal.decreases-loop-part
decreases-loop-part l = length (parts l.line)
