use Rattle.std.proofs.Common.{◌∙◌}
use Rattle.pd_log.specs.Parts.{parts}
use Rattle.pd_log.proofs.ObjectByObject.{one_more}
use Rattle.pd_log.proofs.words.objects_in.Goals as goal

pub loop-part-preserved : goal.loop-part-preserved
loop-part-preserved c =
    rw c.in_ok-push_given.ensures
    (one_more c.loop-part.objects.items (parts c.loop-part.line.now) c.in-Some.part.now (parts c.in-Some.rest.now)
    c.in-Some-given_in.given c.in-Some.ensures c.in-Some-given_in.ensures ∙ c.loop-part.invariant)
