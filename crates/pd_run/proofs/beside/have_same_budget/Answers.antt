use Rattle.std.proofs.Common.{sym, ◌∙◌}
use Rattle.pd_run.proofs.Agree.{same_always}
use Rattle.pd_run.proofs.beside.have_same_budget.Goals as goal

pub returns-then-budget-clause-same : goal.returns-then-budget-clause-same
returns-then-budget-clause-same g c = λ is.
    same_always c.args.old.now c.args.plan.now (sym c.budget.ensures.budget ∙ c.if-budget.true ∙ c.budget-2.ensures.budget)
    (sym c.forces.ensures.forces ∙ c.same_changes.ensures.0 is ∙ c.forces-then-budget.ensures.forces)
