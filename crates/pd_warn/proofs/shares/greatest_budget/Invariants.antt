use Rattle.std.proofs.Common.{◌≡◌, take}
use Rattle.pd_warn.specs.Stated.{greatest_budget}
use Rattle.pd_warn.proofs.shares.greatest_budget.Given as goal

abbrev pub invariant-loop-event : goal.invariant-loop-event
invariant-loop-event l = l.greatest ≡ greatest_budget l.budget_mw l.end (take l.event-index l.events)
