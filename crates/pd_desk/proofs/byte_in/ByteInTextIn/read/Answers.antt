use Rattle.std.proofs.Common.{arith, subst}
use Rattle.pd_desk.proofs.DeskLemmas.{first_set}
use Rattle.pd_desk.specs.Bytes.{GivesByte}
use Rattle.pd_desk.proofs.byte_in.ByteInTextIn.read.Goals as goal

pub returns-in-Ok-Some-clause-bytes : goal.returns-in-Ok-Some-clause-bytes
returns-in-Ok-Some-clause-bytes g c =
    let given = subst
    (GivesByte (g.R.Read.remaining c.prompt.new.self.reader) (g.R.Read.remaining c.read_byte.new.reader)) c.in-Ok-Some.field-0-is
    c.in-Ok-Some.ensures in
    let put = first_set c.args.space.now c.in-Ok-Some.byte c.if-is_empty.ensures in
    (rw (put, ← c.prompt.ensures.reader) given, λ none. absurd (omega (arith, none)))
