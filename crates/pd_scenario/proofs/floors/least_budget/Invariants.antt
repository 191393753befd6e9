use Rattle.std.proofs.Common.{◌≡◌, take}
use Rattle.pd_scenario.specs.Scenarios.{least_budget}
use Rattle.pd_scenario.proofs.floors.least_budget.Given as goal

abbrev pub invariant-loop-event : goal.invariant-loop-event
invariant-loop-event l = l.least ≡ least_budget l.budget_mw (take l.event-index l.events)
