-- The changes of a budget in the order of their times.
use Rattle.std.specs.Prelude.{◌≡◌, ℕ, ◌≤◌, ◌<◌, ◌⊎◌, List, length, slice_index_or, Contains}
use Rattle.std.specs.List.Sorted.{IsPermutation}
use Rattle.pd_scenario.specs.declared.budget.BudgetChange.{BudgetChange}

-- a change is no later than another, by its time and at one time by its id
abbrev pub IsNoLater : BudgetChange → BudgetChange → Type 0
IsNoLater a b = (a.at < b.at) ⊎ ((a.at ≡ b.at) × (a.id ≤ b.id))

-- the same changes, each no later than those behind it; no two have one id
pub record IsByTime (changes by_time : List BudgetChange) : Type 0 where
  pub same : IsPermutation changes by_time
  pub in_order : (i j : ℕ) (d : BudgetChange) → i ≤ j → j < length by_time
      → IsNoLater (slice_index_or by_time i d) (slice_index_or by_time j d)
  pub one_each : (a b : BudgetChange) → Contains changes a → Contains changes b → a.id ≡ b.id → a ≡ b
