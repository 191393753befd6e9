use Rattle.std.proofs.Common.{◌≡◌, fold, min, take}
use Rattle.std.specs.List.{filter_map}
use Rattle.pd_guarantee.specs.Charger.{budget_by}
use Rattle.pd_guarantee.proofs.budgets.least_mw.Given as goal

abbrev pub invariant-loop-event : goal.invariant-loop-event
invariant-loop-event l = l.least ≡ fold min l.budget_mw (filter_map (budget_by l.end) (take l.event-index l.events))
