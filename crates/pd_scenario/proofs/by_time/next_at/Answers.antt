use Rattle.std.proofs.Common.{sym, subst, Some}
use Rattle.pd_scenario.specs.NextChange.{IsNextChange}
use Rattle.pd_scenario.specs.declared.budget.BudgetChange.{BudgetChange}
use Rattle.pd_scenario.proofs.Places.{next-ahead, none-ahead}
use Rattle.pd_scenario.proofs.by_time.next_at.Goals as goal

pub returns-in-Some : goal.returns-in-Some
returns-in-Some c changes at is stands =
    let change : BudgetChange = c.in-Some.change.now in
    let found = c.in-Some.ensures.lookup in
    subst (λ (x : BudgetChange). IsNextChange changes at (Some x.at)) (sym found.1)
    (next-ahead changes c.args.order.now c.args.place at is stands change found.3.0)

pub returns-in-None : goal.returns-in-None
returns-in-None c changes at is stands =
    none-ahead changes c.args.order.now c.args.place at is stands c.in-None.ensures.lookup.3
