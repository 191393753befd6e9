use Rattle.std.proofs.Common.{sym}
use Rattle.pd_log.proofs.FirstPart.{parts-first, positive, some}
use Rattle.pd_log.proofs.parts.next.Goals as goal

pub returns : goal.returns
returns c =
    let long = some c.without_gaps-rest.result.now (sym c.if-is_empty.ensures) in
    let first = positive c.part_len.result c.without_gaps-rest.result.now c.part_len.ensures.found (c.without_gaps-rest.ensures.front long)
    long in
    let parted = parts-first c.without_gaps-rest.result.now c.part_len.result c.part_len.ensures.within c.part_len.ensures.before
    c.part_len.ensures.found first in
    rw (← c.without_gaps-rest.ensures.same, parted, c.split_at.ensures.front, c.split_at.ensures.back)
