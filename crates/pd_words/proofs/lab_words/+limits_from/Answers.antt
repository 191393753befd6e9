use Rattle.std.proofs.Common.{arith, ◌≡◌, ◌∷◌, ◌∙◌, List, [], Option, None, Some, ap, refl, sym}
use Rattle.std.specs.Prelude.{option_and_then}
use Rattle.clap.specs.Words.{Text}
use Rattle.pd_words.specs.LabTasks.{limits_from, with_limit}
use Rattle.pd_words.specs.declared.lab_task.Limits.{Limits}
use Rattle.pd_words.proofs.Limits.{at_sign, one_part}
use Rattle.pd_words.proofs.lab_words.+limits_from.Goals as goal

no_more : (o : Option Limits) → o ≡ option_and_then (limits_from []) o
unfolding limits_from
no_more None = refl
no_more (Some limits) = refl

last : (limits : Limits) (name : Text) → with_limit limits name ≡ limits_from (name ∷ []) limits
unfolding limits_from
last limits name = no_more (with_limit limits name)

next : (limits : Limits) (name : Text) (others : List Text) (o : Option Limits) → o ≡ with_limit limits name
    → option_and_then (limits_from others) o ≡ limits_from (name ∷ others) limits
unfolding limits_from
next limits name others o is = ap (option_and_then (limits_from others)) is

pub returns-in-None : goal.returns-in-None
returns-in-None t c =
    c.with_limit.ensures ∙ last c.args.limits c.args.names.now
    ∙ sym (ap (λ names. limits_from names c.args.limits) (one_part 44 c.args.names.now c.in-None.ensures.cases (omega arith)))

pub returns-in_err-with_limit-in-Some : goal.returns-in_err-with_limit-in-Some
returns-in_err-with_limit-in-Some t c =
    let parts = at_sign 44 c.args.names.now (c.in-Some.name, c.in-Some.others) c.in-Some.ensures.cases (omega arith) in
    c.from_residual.ensures
    ∙ next c.args.limits c.in-Some.name.now _ None (sym c.in_err-with_limit-in-Some.was ∙ c.with_limit-in-Some.ensures)
    ∙ sym (ap (λ names. limits_from names c.args.limits) parts.pieces)

pub returns-in_ok-with_limit-in-Some : goal.returns-in_ok-with_limit-in-Some
returns-in_ok-with_limit-in-Some t c =
    let parts = at_sign 44 c.args.names.now (c.in-Some.name, c.in-Some.others) c.in-Some.ensures.cases (omega arith) in
    c.limits_from.ensures
    ∙ next c.args.limits c.in-Some.name.now _ (Some c.in_ok-with_limit-in-Some.field-0)
    (sym c.in_ok-with_limit-in-Some.was ∙ c.with_limit-in-Some.ensures)
    ∙ sym (ap (λ names. limits_from names c.args.limits) parts.pieces)
