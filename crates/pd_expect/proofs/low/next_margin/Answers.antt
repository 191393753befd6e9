use Rattle.std.proofs.Common.{List, ℕ, Option, subst, sym}
use Rattle.pd_scenario.specs.declared.budget.BudgetChange.{BudgetChange}
use Rattle.pd_expect.specs.Low.{StaysTo}
use Rattle.pd_expect.specs.OverTime.{IsSoonest, Moves}
use Rattle.pd_expect.proofs.LowLemmas.{budget_times, stays_to}
use Rattle.pd_expect.proofs.low.next_margin.Goals as goal

pub returns : goal.returns
returns g c plan same =
    let moves : Moves = g.T.Runner.entries c.args.run.now in
    let budget : IsSoonest (budget_times plan.forces) c.args.at c.next_budget.result =
    subst (λ (cs : List BudgetChange). IsSoonest (budget_times cs) c.args.at c.next_budget.result) (sym same) c.next_budget.ensures in
    subst (λ (o : Option ℕ). StaysTo plan moves c.args.at o) (sym c.sooner.ensures)
    (stays_to plan moves c.args.at c.nearest.result.after c.next_budget.result c.nearest.ensures.soonest budget)
