use Rattle.std.proofs.Common.{◌∙◌}
use Rattle.pd_log.proofs.ByteByByte.{next_pair}
use Rattle.pd_log.proofs.bytes.push_pairs.Goals as goal

pub loop-digits-preserved : goal.loop-digits-preserved
loop-digits-preserved c =
    rw c.in_ok-push.ensures.items
    (next_pair c.loop-digits.bytes.items c.loop-digits.digits.now c.in-Some.byte c.in-len2-up.len_at_least c.in-Some.ensures
    ∙ c.loop-digits.invariant)
