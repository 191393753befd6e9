use Rattle.std.proofs.Common.{append_assoc}
use Rattle.pd_decode.proofs.lines.push_header.Goals as goal

pub returns-clause-bytes : goal.returns-clause-bytes
returns-clause-bytes c =
    rw (
      c.push_all-7.ensures.bytes,
      c.push_number-2.ensures.bytes,
      c.push_all-6.ensures.bytes,
      c.push_number.ensures.bytes,
      c.push_all-5.ensures.bytes,
      c.push_all-4.ensures.bytes,
      c.push_all-3.ensures.bytes,
      c.push_all-2.ensures.bytes,
      c.push_all.ensures.bytes,
    )
    (simp append_assoc (cc))
