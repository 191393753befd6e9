use Rattle.std.proofs.Common.{refl, subst}
use Rattle.pd_words.specs.Help.{IsUsage}
use Rattle.pd_words.specs.declared.pages.TheConstants.{USAGE}
use Rattle.pd_words.proofs.help.usage_of.Goals as goal

pub returns-in-Some : goal.returns-in-Some
returns-in-Some c = subst (λ found. IsUsage found c.in-Some.page.now.usage.now) c.in-Some.ensures (c.in-Some.page.now, refl, refl)

pub returns-in-None : goal.returns-in-None
returns-in-None c = subst (λ found. IsUsage found USAGE.now) c.in-None.ensures refl
