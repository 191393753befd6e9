-- When the budget changes next.
use Rattle.std.specs.Prelude.{◌≡◌, ℕ, ◌≤◌, ◌<◌, ◌⊎◌, List, Option, Some, None, Contains}
use Rattle.pd_scenario.specs.declared.budget.BudgetChange.{BudgetChange}

-- none of the changes is after a time; or one is at the next time, and none is between
abbrev pub IsNextChange : List BudgetChange → ℕ → Option ℕ → Type 0
IsNextChange changes at None = (change : BudgetChange) → Contains changes change → change.at ≤ at
IsNextChange changes at (Some next) =
    (at < next) × ((change : BudgetChange) × Contains changes change × (change.at ≡ next))
    × ((change : BudgetChange) → Contains changes change → (change.at ≤ at) ⊎ (next ≤ change.at))
