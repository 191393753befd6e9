use Rattle.std.proofs.Common.{◌∙◌}
use Rattle.pd_log.specs.Parts.{parts}
use Rattle.pd_log.proofs.ByteByByte.{no_part}
use Rattle.pd_log.proofs.bytes.bytes_in.Goals as goal

pub returns-then-not-branch : goal.returns-then-not-branch
returns-then-not-branch c =
    no_part c.loop-part.bytes.items (parts c.loop-part.line.now) c.in-Some.part.now (parts c.in-Some.rest.now) c.in-Some.ensures
    (rw (c.without_0x.ensures, c.if-not-branch.true) at c.in_ok-push_pairs.ensures) ∙ c.loop-part.invariant
