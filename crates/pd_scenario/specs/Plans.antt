-- The plan that a scenario's contents give, and what its scripts and its budget at a time are, said without computing
-- them: this product's own.
use Rattle.std.specs.Prelude.{◌≡◌, ℕ, ◌*◌, ◌+◌, ◌≤◌, ◌<◌, ◌⊎◌, ◌↔◌, List, map, length, Option, Some, None, slice_get, Contains}
use Rattle.std.specs.List.{filter_map, range_with_len}
use Rattle.pd_setup.specs.Events.{EventData}
use Rattle.pd_scenario.specs.Plan.{Plan, ComesBefore}
use Rattle.pd_scenario.specs.Scenarios.{ScenarioData}
use Rattle.pd_scenario.specs.Script.{script, events_for}
use Rattle.pd_scenario.specs.declared.event.ScenarioHappening.{ScenarioHappening}
use Rattle.pd_scenario.specs.declared.event.ScenarioHappening.TheVariants.{OnPort, Budget}
use Rattle.pd_scenario.specs.declared.event.ScenarioEvent.{ScenarioEvent}
use Rattle.pd_scenario.specs.declared.budget.BudgetChange.{BudgetChange}

-- the change of the shared budget that an event is, in microwatts
abbrev pub change_in : ℕ → ℕ → ScenarioHappening → Option BudgetChange
change_in id at (OnPort port kind) = None
change_in id at (Budget mw) = Some (record { id = id; at = at; budget = mw * 1000 })

abbrev pub change_of : ScenarioEvent → Option BudgetChange
change_of e = change_in e.id e.at e.happening

abbrev pub changes_of : List ScenarioEvent → List BudgetChange
changes_of events = filter_map change_of events

-- the settings of the ports; the script of each port, numbered from 1; the budget in microwatts and its changes; and the
-- end
unfoldable pub plan_of : ScenarioData → Plan
plan_of c = record {
  settings = c.settings;
  scripts = map (script c.cables c.sinks c.events) (range_with_len 1 (length c.settings));
  budget = c.budget_mw * 1000;
  forces = changes_of c.events;
  end = c.end_us;
}

-- A port's script has exactly what the events are for the port: its own, with the cable and the sink in place of their
-- names, and one for the instant of each change of the budget. They stand in the order of their times and, at one time,
-- the change first and then by their ids.
pub record IsScript (c : ScenarioData) (port : ℕ) (events : List EventData) : Type 0 where
  pub all : (e : EventData) → Contains events e ↔ Contains (events_for c.cables c.sinks port c.events) e
  pub in_order : (i : ℕ) (e f : EventData) → slice_get events i ≡ Some e → slice_get events (i + 1) ≡ Some f → ComesBefore e f

-- a change at or before a time, to which none of the others at or before it is later
pub record IsLast (changes : List BudgetChange) (at : ℕ) (change : BudgetChange) : Type 0 where
  pub there : Contains changes change
  pub in_time : change.at ≤ at
  pub last : (other : BudgetChange) → Contains changes other → other.at ≤ at
      → (other.at < change.at) ⊎ ((other.at ≡ change.at) × (other.id ≤ change.id))

-- the budget at a time is that of the last change at or before it, and the plan's where there is none
abbrev pub IsForce : Plan → ℕ → ℕ → Type 0
IsForce plan at budget =
    ((change : BudgetChange) × IsLast plan.forces at change × (budget ≡ change.budget))
    ⊎ (((change : BudgetChange) → Contains plan.forces change → at < change.at) × (budget ≡ plan.budget))
