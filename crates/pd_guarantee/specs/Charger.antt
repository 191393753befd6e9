-- A charger, whatever is attached to it: what its ports are set to, and how little and how much power they share.
use Rattle.std.specs.Prelude.{◌≡◌, ℕ, ◌*◌, ◌≤◌, max, min, fold, nat_le, List, Option, None, if◌then◌else◌}
use Rattle.std.specs.List.{filter_map}
use Rattle.pd_setup.specs.Settings.{SettingsData}
use Rattle.pd_scenario.specs.Plan.{Plan, force}
use Rattle.pd_scenario.specs.Plans.{changes_of}
use Rattle.pd_scenario.specs.Scenarios.{ScenarioData, budget_of}
use Rattle.pd_scenario.specs.declared.event.ScenarioEvent.{ScenarioEvent}

-- the settings of the ports, and the least and the greatest budget, in microwatts
pub record Charger : Type 0 where
  pub settings : List SettingsData
  pub least : ℕ
  pub greatest : ℕ

-- A plan is one of the charger's: its ports are set so, and at each time up to its end its budget is one from the least to the
-- greatest. Its scripts, with their events, cables and sinks, its changes of the budget and its end are any.
pub record IsOf (c : Charger) (plan : Plan) : Type 0 where
  pub settings : plan.settings ≡ c.settings
  pub least : (at : ℕ) → at ≤ plan.end → c.least ≤ force plan at
  pub greatest : (at : ℕ) → at ≤ plan.end → force plan at ≤ c.greatest

-- the budget that an event changes to in the run, which is up to the end, in mW
abbrev pub budget_by : ℕ → ScenarioEvent → Option ℕ
budget_by end e = if nat_le e.at end then budget_of e else None

-- the budgets that events change to in a scenario's run
abbrev pub later_budgets : ScenarioData → List ℕ
later_budgets s = filter_map (budget_by s.end_us) s.events

-- the least and the greatest of a scenario's budgets, in mW: that at the start, and those that events change to in the run
abbrev pub least_mw : ScenarioData → ℕ
least_mw s = fold min s.budget_mw (later_budgets s)

abbrev pub greatest_mw : ScenarioData → ℕ
greatest_mw s = fold max s.budget_mw (later_budgets s)

-- the charger of a scenario
unfoldable pub charger_of : ScenarioData → Charger
charger_of s = record { settings = s.settings; least = least_mw s * 1000; greatest = greatest_mw s * 1000 }

-- Another scenario of the same charger: the ports are set as in this one, the budget starts and changes so, and it ends no later. Its
-- other events, its cables and its sinks are any.
pub record IsSameCharger (s other : ScenarioData) : Type 0 where
  pub settings : other.settings ≡ s.settings
  pub budget : other.budget_mw ≡ s.budget_mw
  pub changes : changes_of other.events ≡ changes_of s.events
  pub ends : other.end_us ≤ s.end_us
