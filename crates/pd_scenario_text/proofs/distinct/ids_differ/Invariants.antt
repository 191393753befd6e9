use Rattle.std.proofs.Common.{◌≡◌, ℕ, take, true, nat_cmp}
use Rattle.std.specs.BTreeSet.{contains}
use Rattle.pd_scenario.specs.Scenarios.{has_id, ids_differ}
use Rattle.pd_scenario_text.proofs.distinct.ids_differ.Given as goal

abbrev pub invariant-loop-event : goal.invariant-loop-event
invariant-loop-event l =
    (ids_differ (take l.event-index l.events) ≡ true) × ((id : ℕ) → contains nat_cmp l.seen id ≡ has_id (take l.event-index l.events) id)
