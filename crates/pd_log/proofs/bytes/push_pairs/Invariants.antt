use Rattle.std.proofs.Common.{◌≡◌, length}
use Rattle.pd_log.specs.Bytes.{pairs_of}
use Rattle.pd_log.specs.Words.{with_objects}
use Rattle.pd_log.proofs.bytes.push_pairs.Given as goal

abbrev pub invariant-loop-digits : goal.invariant-loop-digits
invariant-loop-digits l = with_objects l.bytes.items (pairs_of l.digits) ≡ with_objects l.initial.bytes.items (pairs_of l.initial.digits)

abbrev pub decreases-loop-digits : goal.decreases-loop-digits
decreases-loop-digits l = length l.digits
