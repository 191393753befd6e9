use Rattle.pd_warn.proofs.Greatest.{budgets_are_greatest}
use Rattle.pd_warn.proofs.laws.budgets_are_greatest.Goals as goal

pub returns : goal.returns
returns c = budgets_are_greatest
