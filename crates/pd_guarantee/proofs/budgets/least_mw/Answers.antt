use Rattle.std.proofs.Common.{◌∙◌, sym}
use Rattle.pd_guarantee.proofs.BudgetLemmas.{least_more}
use Rattle.pd_guarantee.proofs.budgets.least_mw.Goals as goal
use Rattle.pd_guarantee.proofs.budgets.least_mw.Goals.{in-Some, in_default}

pub loop-event-preserved : goal.loop-event-preserved
loop-event-preserved c =
    let more =
    least_more c.args.budget_mw c.args.end c.args.events.now c.loop-event.event-index c.event-item.result c.loop-event-test.true
    c.event-item.is in
    elim c.match-budget_by.branch [
      | in-Some w ↦ w.least-is ∙ w.min-least.ensures ∙ sym (rw (more, ← w.in-Some.ensures, ← c.loop-event.invariant))
      | in_default w ↦ w.least-is ∙ sym (rw (more, sym c.budget_by.ensures ∙ w.in_default.is, ← c.loop-event.invariant))
    ]
