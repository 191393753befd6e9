use Rattle.std.proofs.Common.{◌≡◌, length}
use Rattle.pd_log.specs.Parts.{parts}
use Rattle.pd_log.specs.Words.{objects_in, with_objects}
use Rattle.pd_log.proofs.words.objects_in.Given as goal

abbrev pub invariant-loop-part : goal.invariant-loop-part
invariant-loop-part l = with_objects l.objects.items (objects_in (parts l.line)) ≡ objects_in (parts l.initial.line)

abbrev pub decreases-loop-part : goal.decreases-loop-part
decreases-loop-part l = length (parts l.line)
