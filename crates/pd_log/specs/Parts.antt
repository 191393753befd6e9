-- The parts of a line of a log.
use Rattle.std.specs.Prelude.{ℕ, Bool, true, false, ◌||◌, ◌==◌, List, [], ◌∷◌, Option, Some, None, option_and_then, if◌then◌else◌}

infixl 10 ◌>>=◌
abbrev pub ◌>>=◌ : {A B : Type 0} → Option A → (A → Option B) → Option B
o >>= f = option_and_then f o

abbrev pub Parts : Type 0
Parts = List (List ℕ)

-- what stands between parts: spaces, commas, tabs, and the carriage return at a line's end
abbrev pub is_gap : ℕ → Bool
is_gap c = (c == 32 || c == 44) || (c == 9 || c == 13)

-- the line is over, or goes on with a gap
abbrev pub is_apart : List ℕ → Bool
is_apart [] = true
is_apart (c ∷ cs) = is_gap c

-- a byte before the parts of what stands after it: alone where that is apart, else in front of its first part
abbrev pub with_byte : ℕ → Bool → Parts → Parts
with_byte c false (p ∷ ps) = (c ∷ p) ∷ ps
with_byte c _ ps = (c ∷ []) ∷ ps

-- the parts of a line
abbrev pub parts : List ℕ → Parts
parts [] = []
parts (c ∷ cs) = if is_gap c then parts cs else with_byte c (is_apart cs) (parts cs)

-- the first part and the others
abbrev pub next : Parts → Option (List ℕ × Parts)
next [] = None
next (p ∷ ps) = Some (p, ps)
