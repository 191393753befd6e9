use Rattle.std.proofs.Common.{arith, ◌∙◌, ap, ap₂, sym}
use Rattle.pd_words.specs.LabTasks.{with_limit_at, with_value}
use Rattle.pd_words.proofs.Limits.{at_sign, no_sign}
use Rattle.pd_words.proofs.lab_words.with_limit.Goals as goal

pub returns-in-None : goal.returns-in-None
returns-in-None c =
    c.with_name.ensures ∙ sym (ap (with_limit_at c.args.limits c.args.name.now)
    (no_sign 61 c.args.name.now c.in-None.ensures.cases (omega arith)))

pub returns-in-Some : goal.returns-in-Some
returns-in-Some c =
    let parts = at_sign 61 c.args.name.now (c.in-Some.name, c.in-Some.word) c.in-Some.ensures.cases (omega arith) in
    c.with_value.ensures ∙ ap₂ (with_value c.args.limits) parts.front_is parts.back_is
    ∙ sym (ap (with_limit_at c.args.limits c.args.name.now) parts.here)
