use Rattle.std.proofs.Common.{◌≡◌, ◌++◌, map, filter, take}
use Rattle.pd_scenario.specs.declared.event.ScenarioEvent.{ScenarioEvent}
use Rattle.pd_edit.specs.Refusals.{names_cable}
use Rattle.pd_explain.specs.Places.{user}
use Rattle.pd_explain.proofs.places.push_cable_users.Given as goal

abbrev pub invariant-loop-event : goal.invariant-loop-event
invariant-loop-event l =
    l.places.items
    ≡ l.initial.places.items ++ map user (filter (λ (e : ScenarioEvent). names_cable l.name e.happening) (take l.event-index l.events))
