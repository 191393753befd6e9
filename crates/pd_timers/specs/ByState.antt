-- A state table read state by state, as the code goes through it.
use Rattle.std.specs.Prelude.{ℕ, Bool, filter, if◌then◌else◌, List, [], ◌∷◌}
use Rattle.pd_timers.specs.Table.{Row, is_among}

-- of some rows those that a state has, in order
abbrev pub rows_with : {S C G N D : Type 0} → (S → ℕ) → S → List (Row S C G N D) → List (Row S C G N D)
rows_with place s rows = filter (λ r. is_among place s r.states) rows

-- what the first row does for which a test holds; where it holds for none, nothing
abbrev pub first_deeds : {R D : Type 0} → (R → Bool) → (R → List D) → List R → List D
first_deeds test deeds [] = []
first_deeds test deeds (r ∷ rows) = if test r then deeds r else first_deeds test deeds rows
