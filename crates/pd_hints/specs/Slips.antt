-- Words that are others but for one slip of the hand: another letter, a letter left out or too many, or two neighbours swapped.
use Rattle.std.specs.Prelude.{ℕ, ◌+◌, Bool, false, ◌&&◌, ◌||◌, ◌==◌, List, [], ◌∷◌, ◌++◌, length, find, map, nat_le, codes, bytes_eq}
use Rattle.std.specs.Prelude.{Option, None, Some, if◌then◌else◌}

-- the slip of one word is the other
pub data IsSlip : List ℕ → List ℕ → Type 0 where
  another : (front back : List ℕ) (x y : ℕ) → IsSlip (front ++ x ∷ back) (front ++ y ∷ back)
  left_out : (front back : List ℕ) (y : ℕ) → IsSlip (front ++ back) (front ++ y ∷ back)
  too_many : (front back : List ℕ) (x : ℕ) → IsSlip (front ++ x ∷ back) (front ++ back)
  swapped : (front back : List ℕ) (x y : ℕ) → IsSlip (front ++ x ∷ (y ∷ back)) (front ++ y ∷ (x ∷ back))

-- ---- the test

abbrev pub is_swapped_here : List ℕ → List ℕ → Bool
is_swapped_here (x ∷ (x' ∷ xs)) (y ∷ (y' ∷ ys)) = x == y' && (x' == y && bytes_eq xs ys)
is_swapped_here _ _ = false

-- the slip is at the front, and all behind it is the same
abbrev pub is_slip_here : List ℕ → List ℕ → Bool
is_slip_here (x ∷ xs) (y ∷ ys) =
    bytes_eq xs ys || (bytes_eq (x ∷ xs) ys || (bytes_eq xs (y ∷ ys) || is_swapped_here (x ∷ xs) (y ∷ ys)))
is_slip_here xs ys = length xs + length ys == 1

-- what stands behind the first letter of two words, where both begin with the same
abbrev pub behind_same : List ℕ → List ℕ → Option (List ℕ × List ℕ)
behind_same (x ∷ xs) (y ∷ ys) = if x == y then Some (xs, ys) else None
behind_same _ _ = None

-- what both begin with doesn't count
unfoldable pub is_slip : List ℕ → List ℕ → Bool
is_slip (x ∷ xs) (y ∷ ys) = if x == y then is_slip xs ys else is_slip_here (x ∷ xs) (y ∷ ys)
is_slip xs ys = is_slip_here xs ys

-- the first of some words of which a word is a slip
abbrev pub nearest : List ℕ → List (List ℕ) → Option (List ℕ)
nearest word others = find (is_slip word) others

-- ---- what is said

-- a byte as it is shown: what is no printable ASCII character is a question mark
abbrev pub shown : ℕ → ℕ
shown byte = if nat_le 32 byte && nat_le byte 126 then byte else 63

unfoldable pub meant_words : List ℕ → List ℕ
meant_words other = codes "did you mean `" ++ (map shown other ++ codes "`?")

unfoldable pub meant_text : Option (List ℕ) → List ℕ
meant_text None = []
meant_text (Some other) = meant_words other
