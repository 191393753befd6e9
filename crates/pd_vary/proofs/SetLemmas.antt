-- How many rows there are.
use Rattle.std.proofs.Common.{◌≡◌, ℕ, ◌*◌, ◌/◌, ◌<◌, ◌≤◌, List, [], ◌∷◌, ◌++◌, sym, ap, append_assoc, ◌∙◌, arith}
use Rattle.std.proofs.Math.Nat.{mul-div_cancel_left}
use Rattle.std.proofs.Common.{Bool, true, false, cond, Some, None, nat_le}
use Rattle.std.specs.Prelude.{unwrap_or}
use Rattle.pd_vary.specs.Sets.{SetData, ValuesData, count_of, few_rows, listed, most_rows, rows_of, steps}

pub count_some : (v : ValuesData) → 1 ≤ count_of v
count_some (listed ws) = omega arith
count_some (steps from step count) = omega arith

some_times : (c m : ℕ) → 1 ≤ c → 1 ≤ m → 1 ≤ c * m
some_times c m hc hm = grind arith

-- there is a row
pub rows_some : (sets : List SetData) → 1 ≤ rows_of sets
unfolding rows_of
rows_some [] = omega arith
rows_some (s ∷ more) = some_times (count_of s.values) (rows_of more) (count_some s.values) (rows_some more)

-- the rows of the sets behind the first
pub later_rows : (s : SetData) (more : List SetData) (rows count : ℕ) → rows ≡ rows_of (s ∷ more) → count ≡ count_of s.values
    → rows / count ≡ rows_of more
unfolding rows_of
later_rows s more rows count all is =
    ap (λ k. k / count) all ∙ ap (λ k. count_of s.values * rows_of more / k) is
    ∙ mul-div_cancel_left (rows_of more) (let e : 0 < count_of s.values = omega (arith, count_some s.values) in e)

-- a value, and those of the other sets behind it
pub pushed : (old now new rest : List (List ℕ)) (value : List ℕ) → now ≡ old ++ value ∷ [] → new ≡ now ++ rest
    → new ≡ old ++ value ∷ rest
pushed old now new rest value one all = all ∙ ap (λ l. l ++ rest) one ∙ append_assoc old (value ∷ []) rest

-- so many rows, where they are few
pub few_are : (sets : List SetData) (rows : ℕ) → few_rows sets ≡ Some rows → rows ≡ rows_of sets
few_are sets rows few = sym (by_case (nat_le (rows_of sets) most_rows) few)
  where
    by_case : (b : Bool) → cond b (Some (rows_of sets)) None ≡ Some rows → rows_of sets ≡ rows
    by_case true e = ap (λ o. unwrap_or o (rows_of sets)) e
    by_case false e = ap (λ o. unwrap_or o (rows_of sets)) e
