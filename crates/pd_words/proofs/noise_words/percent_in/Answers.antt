use Rattle.std.proofs.Common.{arith, ◌∙◌, ap, ap₂, sym}
use Rattle.pd_words.specs.LabTasks.{number, percent_at, percent_of, thousandths}
use Rattle.pd_words.proofs.Limits.{at_sign, no_sign}
use Rattle.pd_words.proofs.noise_words.percent_in.Goals as goal

pub returns-in-None : goal.returns-in-None
returns-in-None c =
    c.whole_percent.ensures ∙ sym (ap (percent_at c.args.word.now) (no_sign 46 c.args.word.now c.in-None.ensures.cases (omega arith)))

pub returns-in-Some : goal.returns-in-Some
returns-in-Some c =
    let parts = at_sign 46 c.args.word.now (c.in-Some.percent, c.in-Some.part) c.in-Some.ensures.cases (omega arith) in
    c.percent_of.ensures ∙ ap₂ (λ percent part. percent_of (number percent) (thousandths part)) parts.front_is parts.back_is
    ∙ sym (ap (percent_at c.args.word.now) parts.here)
