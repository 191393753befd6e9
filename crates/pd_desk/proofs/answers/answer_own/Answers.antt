use Rattle.std.proofs.Common.{[], inl, inr, refl}
use Rattle.std.proofs.KnownBytes.{Appends-nil}
use Rattle.pd_desk.specs.OwnFaults.{own_sentence}
use Rattle.pd_desk.proofs.Told.{told_nothing}
use Rattle.pd_desk.proofs.answers.answer_own.Goals as goal

pub returns-in-Ok-clause-reply : goal.returns-in-Ok-clause-reply
returns-in-Ok-clause-reply g c = (
  c.in-Ok.text.items,
  [],
  inl (c.in-Ok.ensures.text, refl),
  rw c.as_slice.ensures.value at c.write_all.ensures.text,
  told_nothing c.write_all.result _,
)

pub returns-in-Err-Fault-clause-reply : goal.returns-in-Err-Fault-clause-reply
returns-in-Err-Fault-clause-reply g c =
    let fails = rw c.in-Err-Fault.field-0-is at c.in-Err-Fault.ensures.text in (
      [],
      own_sentence c.in-Err-Fault.fault,
      inr (refl, inl (c.in-Err-Fault.fault, fails, refl)),
      Appends-nil _,
      (c.write_text.result, rw c.sentence.ensures at c.write_text.ensures.text, c.write_text.ensures.counts),
    )

pub returns-in-Err-Refused-clause-reply : goal.returns-in-Err-Refused-clause-reply
returns-in-Err-Refused-clause-reply g c =
    let refuses = rw c.in-Err-Refused.field-0-is at c.in-Err-Refused.ensures.text in
    let told = c.write_all-in-Err-Refused in (
      [],
      c.in-Err-Refused.told.items,
      inr (refl, inr refuses),
      Appends-nil _,
      (told.result, rw c.as_slice-in-Err-Refused.ensures.value at told.ensures.text, told.ensures.counts),
    )
