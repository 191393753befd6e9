use Rattle.std.proofs.Common.{◌∙◌}
use Rattle.pd_log.specs.Parts.{parts}
use Rattle.pd_log.proofs.PartByPart.{one_more, unmarked}
use Rattle.pd_log.proofs.given.codes_in.Goals as goal

pub loop-part-preserved : goal.loop-part-preserved
loop-part-preserved c =
    rw c.in_ok-push.ensures.items
    (one_more c.loop-part.codes.items (parts c.loop-part.line.now) c.in-Some.part.now (parts c.in-Some.rest.now) c.in-Some-code_of.code
    c.in-Some.ensures c.in-Some-code_of.ensures ∙ c.loop-part.invariant)

pub returns-in_default-at_end : goal.returns-in_default-at_end
returns-in_default-at_end c =
    unmarked c.loop-part.codes.items (parts c.loop-part.line.now) c.in-Some.part.now (parts c.in-Some.rest.now) c.in-Some.ensures
    c.in_default-code_of.ensures c.in_default-at_end.ensures ∙ c.loop-part.invariant
