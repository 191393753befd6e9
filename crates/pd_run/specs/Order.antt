-- The order of moves.
use Rattle.std.specs.Prelude.{◌≡◌, ℕ, ◌≤◌, List, [], ◌∷◌, ◌++◌}

-- P holds of each member with the members before it
abbrev pub EachAfter : {X : Type 0} → (List X → X → Type 0) → List X → List X → Type 0
EachAfter P past [] = Unit {0}
EachAfter P past (x ∷ xs) = P past x × EachAfter P (past ++ x ∷ []) xs

-- by time, and at one time by port
pub record IsNoLater (time port other_time other_port : ℕ) : Type 0 where
  pub by_time : time ≤ other_time
  pub by_port : time ≡ other_time → port ≤ other_port
