-- The words of a line, and what a word stands for.
use Rattle.std.specs.Prelude.{ℕ, ◌+◌, ◌-◌, ◌*◌, Bool, true, false, not, ◌&&◌, ◌==◌, nat_le, List, [], ◌∷◌, length, fold, Option, Some, None}
use Rattle.std.specs.Prelude.{option_and_then, if◌then◌else◌}
use Rattle.std.specs.List.{list_all}
use Rattle.std.specs.Char.{is_ascii_digit}
use Rattle.pd_scenario.specs.Names.{is_name}

infixl 10 ◌>>=◌
abbrev pub ◌>>=◌ : {A B : Type 0} → Option A → (A → Option B) → Option B
o >>= f = option_and_then f o

-- the line is over, or goes on with a space
abbrev pub is_apart : List ℕ → Bool
is_apart [] = true
is_apart (c ∷ cs) = c == 32

-- a byte before the words of what stands after it: alone where that is apart, else in front of its first word
abbrev pub with_byte : ℕ → Bool → List (List ℕ) → List (List ℕ)
with_byte c false (w ∷ ws) = (c ∷ w) ∷ ws
with_byte c _ ws = (c ∷ []) ∷ ws

-- the words of a line, which spaces part
abbrev pub words : List ℕ → List (List ℕ)
words [] = []
words (c ∷ cs) = if c == 32 then words cs else with_byte c (is_apart cs) (words cs)

-- 1 to 10 digits
abbrev pub number : List ℕ → Option ℕ
number w =
    if (not (length w == 0) && nat_le (length w) 10) && list_all is_ascii_digit w then Some (fold (λ n c. 10 * n + (c - 48)) 0 w) else None

abbrev pub name : List ℕ → Option (List ℕ)
name w = if is_name w then Some w else None

-- the first word and the others
abbrev pub next : List (List ℕ) → Option (List ℕ × List (List ℕ))
next [] = None
next (w ∷ ws) = Some (w, ws)

-- no word
abbrev pub end_of : List (List ℕ) → Option (Unit {0})
end_of [] = Some tt
end_of (w ∷ ws) = None

abbrev pub number_at : List (List ℕ) → Option (ℕ × List (List ℕ))
number_at ws = do
  w ← next ws
  n ← number w.0
  Some (n, w.1)

abbrev pub name_at : List (List ℕ) → Option (List ℕ × List (List ℕ))
name_at ws = do
  w ← next ws
  n ← name w.0
  Some (n, w.1)
