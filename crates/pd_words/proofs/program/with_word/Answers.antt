use Rattle.std.proofs.Common.{◌∙◌, ◌≡◌, ◌||◌, Bool, true, false, refl}
use Rattle.std.proofs.lemmas.Result.{IfOk-weaker}
use Rattle.pd_words.proofs.program.with_word.Goals as goal

or_false : (b other : Bool) → other ≡ false → (b || other) ≡ b
or_false true other none = refl
or_false false other none = none

pub returns-clause-local : goal.returns-clause-local
returns-clause-local c =
    IfOk-weaker c.arg.result _ _ (λ new added. added.globals ∙ or_false _ _ c.required.ensures.local) c.arg.ensures
