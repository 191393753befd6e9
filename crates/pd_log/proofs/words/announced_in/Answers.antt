use Rattle.std.proofs.Common.{◌∙◌}
use Rattle.pd_log.specs.Parts.{parts}
use Rattle.pd_log.proofs.ObjectByObject.{passed_over}
use Rattle.pd_log.proofs.words.announced_in.Goals as goal

pub loop-part-preserved : goal.loop-part-preserved
loop-part-preserved c =
    passed_over (parts c.loop-part.line.now) c.in-Some.part.now (parts c.in-Some.rest.now) c.in-Some.ensures
    c.in_default-announced_at.ensures ∙ c.loop-part.invariant
