-- The budget that ports share, in microwatts: this product's own rule, as docs/TABLES.md has it.
use Rattle.std.specs.Prelude.{◌≡◌, ℕ, suc, ◌+◌, ◌-◌, ◌<◌, ◌≤◌, ◌^◌, max, List, length, sum, take, drop, slice_index, slice_set}

-- a budget, what each port may not fall below, and what it holds
pub record Account : Type 0 where
  pub budget : ℕ
  pub floors : List ℕ
  pub holds : List ℕ

-- What is free to a port, the ports being numbered from 0 here: the budget less the other ports' holds, and at least the
-- port's floor. Where the budget has fallen the others may hold more than all of it.
abbrev pub free_of : Account → ℕ → ℕ
free_of a p = max (slice_index a.floors p) (a.budget - sum (slice_set a.holds p 0))

-- so much power of a port, the lower ports' holds and the higher ports' floors
abbrev pub total_with : Account → ℕ → ℕ → ℕ
total_with a p power = power + (sum (take p a.holds) + sum (drop (suc p) a.floors))

-- What a ledger of n ports keeps: no floor is below half a watt, no hold is below its port's floor, and the floors add to
-- at most the budget. The holds, whose total is kept, may add to more, until each port has made room.
pub record IsLedger (n budget : ℕ) (floors holds : List ℕ) (total : ℕ) : Type 0 where
  pub few : n ≤ 8
  pub floors_count : length floors ≡ n
  pub holds_count : length holds ≡ n
  pub half_a_watt : (p : ℕ) → p < n → 500000 ≤ slice_index floors p
  pub floored : (p : ℕ) → p < n → slice_index floors p ≤ slice_index holds p
  pub funded : sum floors ≤ budget
  pub totalled : total ≡ sum holds
  pub small : (p : ℕ) → p < n → slice_index holds p < 2 ^ 64
