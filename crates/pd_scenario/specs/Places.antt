-- A place among the changes of the budget in the order of their times.
use Rattle.std.specs.Prelude.{◌<◌, ◌≤◌, ℕ, List, length, slice_index_or}
use Rattle.pd_scenario.specs.declared.budget.BudgetChange.{BudgetChange}
use Rattle.pd_scenario.specs.ByTime.{IsNoLater}

-- each change is no later than those behind it
abbrev pub AreInOrder : List BudgetChange → Type 0
AreInOrder order = (i j : ℕ) (d : BudgetChange) → i ≤ j → j < length order
    → IsNoLater (slice_index_or order i d) (slice_index_or order j d)

-- the changes before the place come by the time
abbrev pub ArePast : List BudgetChange → ℕ → ℕ → Type 0
ArePast order place at = (i : ℕ) (d : BudgetChange) → i < place → (slice_index_or order i d).at ≤ at

-- and the others later
pub record StandsAt (order : List BudgetChange) (place at : ℕ) : Type 0 where
  pub within : place ≤ length order
  pub past : ArePast order place at
  pub ahead : (i : ℕ) (d : BudgetChange) → place ≤ i → i < length order → at < (slice_index_or order i d).at
