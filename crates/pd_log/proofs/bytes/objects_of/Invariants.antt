use Rattle.std.proofs.Common.{◌≡◌, length}
use Rattle.pd_log.specs.Bytes.{objects_of}
use Rattle.pd_log.specs.Words.{with_objects}
use Rattle.pd_log.proofs.bytes.objects_of.Given as goal

abbrev pub invariant-loop-bytes : goal.invariant-loop-bytes
invariant-loop-bytes l = with_objects l.objects.items (objects_of l.bytes) ≡ objects_of l.initial.bytes

abbrev pub decreases-loop-bytes : goal.decreases-loop-bytes
decreases-loop-bytes l = length l.bytes
