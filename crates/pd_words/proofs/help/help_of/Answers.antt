use Rattle.std.proofs.Common.{refl, subst}
use Rattle.std.specs.Prelude.{IfOk}
use Rattle.std.specs.String.{string_bytes}
use Rattle.std.proofs.lemmas.Result.{IfOk-weaker}
use Rattle.pd_words.specs.Help.{IsHelp}
use Rattle.pd_words.proofs.help.help_of.Goals as goal

pub returns-in-Some : goal.returns-in-Some
returns-in-Some c = subst (λ found. IfOk c.page_help.result (λ text. IsHelp found (string_bytes text))) c.in-Some.ensures
    (IfOk-weaker c.page_help.result _ _ (λ text is. (c.in-Some.page.now, refl, is)) c.page_help.ensures)

pub returns-in-None : goal.returns-in-None
returns-in-None c = subst (λ found. IfOk c.program_help.result (λ text. IsHelp found (string_bytes text))) c.in-None.ensures
    c.program_help.ensures
