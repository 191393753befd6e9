use Rattle.std.proofs.Common.{arith, ◌∙◌, ap, ap₂, sym}
use Rattle.pd_words.specs.LabTasks.{number, share_at, share_of}
use Rattle.pd_words.proofs.Limits.{at_sign, no_sign}
use Rattle.pd_words.proofs.lab_words.share_in.Goals as goal

pub returns-in-None : goal.returns-in-None
returns-in-None c = sym (ap (share_at c.args.word.now) (no_sign 47 c.args.word.now c.in-None.ensures.cases (omega arith)))

pub returns-in-Some : goal.returns-in-Some
returns-in-Some c =
    let parts = at_sign 47 c.args.word.now (c.in-Some.part, c.in-Some.parts) c.in-Some.ensures.cases (omega arith) in
    c.share_of_two.ensures ∙ ap₂ (λ part parts. share_of (number part) (number parts)) parts.front_is parts.back_is
    ∙ sym (ap (share_at c.args.word.now) parts.here)
