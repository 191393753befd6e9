-- A plan, which is what a scenario asks of a charger, and what each plan keeps: this product's own.
use Rattle.std.specs.Prelude.{◌≡◌, ℕ, ◌≤◌, ◌<◌, ◌⊎◌, ◌+◌, Bool, true, false, ◌&&◌, ◌||◌, ◌==◌, nat_le, nat_lt, List, [], length, map, fold}
use Rattle.std.specs.Prelude.{sum, Option, Some, None, slice_get, slice_index_or, slice_set, Contains, if◌then◌else◌}
use Rattle.pd_setup.specs.Settings.{SettingsData, floor_of}
use Rattle.pd_setup.specs.Events.{EventData}
use Rattle.pd_setup.specs.declared.event.Happening.{Happening}
use Rattle.pd_setup.specs.declared.event.Happening.TheVariants.{Port, Budget}
use Rattle.pd_scenario.specs.declared.budget.BudgetChange.{BudgetChange}

-- the settings and the events of each port, the shared budget in microwatts, its changes (`forces`), and the end in
-- microseconds
pub record Plan : Type 0 where
  pub settings : List SettingsData
  pub scripts : List (List EventData)
  pub budget : ℕ
  pub forces : List BudgetChange
  pub end : ℕ

-- stands where there is no port
abbrev pub no_settings : SettingsData
no_settings = record { floor_mw = 0; supplies = []; identity_tries = 0; unconstrained = false }

-- how many ports there are
abbrev pub count : Plan → ℕ
count plan = length plan.settings

-- the settings of a port, the ports being numbered from 0 here
abbrev pub settings_of : Plan → ℕ → SettingsData
settings_of plan p = slice_index_or plan.settings p no_settings

-- the events of a port
abbrev pub script_of : Plan → ℕ → List EventData
script_of plan p = slice_index_or plan.scripts p []

-- the plan with another script of a port
abbrev pub with_script : Plan → ℕ → List EventData → Plan
with_script plan p events = record plan { scripts = slice_set plan.scripts p events }

-- the floors in microwatts
abbrev pub floors_of : Plan → List ℕ
floors_of plan = map floor_of plan.settings

-- the number of what happens at an instant: its id, and 0 for a change of the budget, which so comes first
abbrev pub number_of : Happening → ℕ
number_of (Port id kind) = id
number_of Budget = 0

-- an event comes before another by its time, and at one time by its number
abbrev pub ComesBefore : EventData → EventData → Type 0
ComesBefore e f = (e.at < f.at) ⊎ ((e.at ≡ f.at) × (number_of e.happening < number_of f.happening))

-- it is a change of the budget, of which all ports are told
abbrev pub is_change : Happening → Bool
is_change (Port id kind) = false
is_change Budget = true

-- Of two events of a port one behind the other, the second is later; or at one time it is no change of the budget, which comes first.
abbrev pub IsFollowedBy : EventData → EventData → Type 0
IsFollowedBy e f = (e.at < f.at) ⊎ ((e.at ≡ f.at) × (is_change f.happening ≡ false))

-- what tells a port that the budget changes at a time
abbrev pub told_at : ℕ → EventData
told_at at = record { at = at; happening = Budget }

-- a change is later than the last one known, by its time and at one time by its id
abbrev pub is_later : Option BudgetChange → BudgetChange → Bool
is_later None change = true
is_later (Some last) change = nat_lt last.at change.at || ((last.at == change.at) && nat_lt last.id change.id)

-- the last one known at a time, with one more change
abbrev pub with_change : ℕ → Option BudgetChange → BudgetChange → Option BudgetChange
with_change at last change = if nat_le change.at at && is_later last change then Some change else last

-- the last of the changes at or before a time. The law `force_is_last` says which one that is.
abbrev pub last_change : List BudgetChange → ℕ → Option BudgetChange
last_change changes at = fold (with_change at) None changes

abbrev pub budget_after : ℕ → Option BudgetChange → ℕ
budget_after budget None = budget
budget_after budget (Some change) = change.budget

-- the shared budget at a time, in microwatts: that of the last change at or before it, else the plan's
unfoldable pub force : Plan → ℕ → ℕ
force plan at = budget_after plan.budget (last_change plan.forces at)

-- What a port's script keeps beside these changes of the budget: few events, in the order of their times, and among them one for
-- each of the changes, which comes first of its time.
pub record IsScripted (forces : List BudgetChange) (events : List EventData) : Type 0 where
  pub brief : length events ≤ 1000000
  pub in_order : (i : ℕ) (e f : EventData) → slice_get events i ≡ Some e → slice_get events (i + 1) ≡ Some f → IsFollowedBy e f
  pub told : (change : BudgetChange) → Contains forces change → Contains events (told_at change.at)

-- What the plan of each scenario of n ports keeps, and one with more events of a port: floors within the budget at
-- all times, an end within two minutes, few events, in the order of their times, and among them one for each change of the budget, which
-- comes first of its time.
pub record IsPlan (n : ℕ) (plan : Plan) : Type 0 where
  pub settings_count : length plan.settings ≡ n
  pub scripts_count : length plan.scripts ≡ n
  pub some_port : 1 ≤ n
  pub few_ports : n ≤ 8
  pub funded : sum (floors_of plan) ≤ plan.budget
  pub most_budget : plan.budget ≤ 1000000000
  pub always_funded : (at : ℕ) → sum (floors_of plan) ≤ force plan at
  pub most_force : (at : ℕ) → force plan at ≤ 1000000000
  pub soon : plan.end ≤ 120000000
  pub brief : (p : ℕ) → p < n → length (script_of plan p) ≤ 1000000
  pub in_order : (p i : ℕ) (e f : EventData) → slice_get (script_of plan p) i ≡ Some e
      → slice_get (script_of plan p) (i + 1) ≡ Some f → IsFollowedBy e f
  pub told : (p : ℕ) → p < n → (change : BudgetChange) → Contains plan.forces change
      → Contains (script_of plan p) (told_at change.at)
