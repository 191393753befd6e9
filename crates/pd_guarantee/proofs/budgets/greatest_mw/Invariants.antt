use Rattle.std.proofs.Common.{◌≡◌, fold, max, take}
use Rattle.std.specs.List.{filter_map}
use Rattle.pd_guarantee.specs.Charger.{budget_by}
use Rattle.pd_guarantee.proofs.budgets.greatest_mw.Given as goal

abbrev pub invariant-loop-event : goal.invariant-loop-event
invariant-loop-event l = l.greatest ≡ fold max l.budget_mw (filter_map (budget_by l.end) (take l.event-index l.events))
