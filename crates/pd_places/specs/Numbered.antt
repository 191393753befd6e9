-- Tables and values that are told with their numbers.
use Rattle.std.specs.Prelude.{ℕ, ◌+◌, List, [], ◌∷◌, ◌++◌}

-- what is told of each of a list, in its order; the first has this number
unfoldable pub numbered : {X : Type 0} → (ℕ → X → List ℕ) → ℕ → List X → List ℕ
numbered part number [] = []
numbered part number (x ∷ xs) = part number x ++ numbered part (number + 1) xs
