use Rattle.pd_guarantee.proofs.BudgetLemmas.{plans_are_of_the_charger}
use Rattle.pd_guarantee.proofs.laws.plans_are_of_the_charger.Goals as goal

pub returns : goal.returns
returns c = plans_are_of_the_charger
