-- The cells of a line, one after the other.
use Rattle.std.proofs.Common.{◌≡◌, ◌<◌, ◌≤◌, ◌+◌, ◌-◌, ℕ, zero, suc, true, false, List, [], ◌∷◌, refl, ap, sym, length, take, drop}
use Rattle.std.proofs.Common.{Some, None, arith}
use Rattle.std.proofs.lemmas.List.{take_all}
use Rattle.std.specs.Prelude.{Bool, Option, IfSome}
use Rattle.std.specs.List.{position_from}
use Rattle.pd_log.specs.Cells.{begins_marked, cell_length, cells, cells_behind, cells_in, ends_cell, in_front, inside_behind, nth}

-- what stands behind the separator that ends a cell
abbrev pub behind : List ℕ → Option (List ℕ)
behind [] = None
behind (c ∷ cs) = Some cs

pub parted : (separator : ℕ) (marked inside : Bool) (line : List ℕ)
    → cells_in separator marked inside line
    ≡ take (cell_length separator marked inside line) line
    ∷ cells_behind separator (behind (drop (cell_length separator marked inside line) line))
parted separator marked inside [] = refl
parted separator marked inside (c ∷ cs) =
    by_end (ends_cell separator inside c) refl (parted separator marked (inside_behind marked inside c) cs)
  where
    by_end : (ends : Bool) → ends_cell separator inside c ≡ ends
        → cells_in separator marked (inside_behind marked inside c) cs
        ≡ take (cell_length separator marked (inside_behind marked inside c) cs) cs
        ∷ cells_behind separator (behind (drop (cell_length separator marked (inside_behind marked inside c) cs) cs))
        → cells_in separator marked inside (c ∷ cs)
        ≡ take (cell_length separator marked inside (c ∷ cs)) (c ∷ cs)
        ∷ cells_behind separator (behind (drop (cell_length separator marked inside (c ∷ cs)) (c ∷ cs)))
    by_end true is others = rw is refl
    by_end false is others = rw is (ap (in_front c) others)

pub behind_some : (bytes : List ℕ) → 1 ≤ length bytes → behind bytes ≡ Some (take (length bytes - 1) (drop 1 bytes))
behind_some [] long = absurd (omega arith)
behind_some (c ∷ cs) long = let all : take (length (c ∷ cs) - 1) cs ≡ cs = take_all _ cs (omega arith) in rw all refl

pub behind_none : (bytes : List ℕ) → length bytes ≡ 0 → behind bytes ≡ None
behind_none [] none = refl
behind_none (c ∷ cs) none = absurd (omega arith)

-- how much stands behind a cell
abbrev pub size : Option (List ℕ) → ℕ
size None = 0
size (Some rest) = length rest + 1

-- the first cell, and what stands behind it
pub first : (separator : ℕ) (line cell rest : List ℕ) → cell ≡ take (cell_length separator (begins_marked line) false line) line
    → rest ≡ drop (cell_length separator (begins_marked line) false line) line
    → cells separator line ≡ cell ∷ cells_behind separator (behind rest)
first separator line cell rest cell_is rest_is = rw (cell_is, rest_is) (parted separator (begins_marked line) false line)

one_on : (n : ℕ) (cell : List ℕ) (others : List (List ℕ)) → 0 < n → nth n (cell ∷ others) ≡ nth (n - 1) others
one_on zero cell others some = absurd (omega arith)
one_on (suc n) cell others some = let back : suc n - 1 ≡ n = omega arith in rw back refl

pub next_cell : (separator n : ℕ) (cell next rest : List ℕ) (others : List (List ℕ)) (left : Option (List ℕ)) → 0 < n
    → left ≡ Some rest → cells separator rest ≡ next ∷ others
    → nth (n - 1) (next ∷ others) ≡ nth n (cell ∷ cells_behind separator left)
next_cell separator n cell next rest others left some is cut =
    rw (is, ← cut) (sym (one_on n cell (cells separator rest) some))

-- a cell that a test passes over, and one that it finds
pub passed_over : (test : List ℕ → Bool) (separator place : ℕ) (cell rest : List ℕ) (others : List (List ℕ)) (left : Option (List ℕ))
    → left ≡ Some rest → cells separator rest ≡ cell ∷ others → test cell ≡ false
    → position_from test (place + 1) others ≡ position_from test place (cells_behind separator left)
passed_over test separator place cell rest others left is cut fails = rw (is, cut, fails) refl

pub found : (test : List ℕ → Bool) (separator place : ℕ) (cell rest : List ℕ) (others : List (List ℕ)) (left : Option (List ℕ))
    → left ≡ Some rest → cells separator rest ≡ cell ∷ others → test cell ≡ true
    → Some place ≡ position_from test place (cells_behind separator left)
found test separator place cell rest others left is cut passes = rw (is, cut, passes) refl

pub smaller : (left others : Option (List ℕ)) (rest : List ℕ) → left ≡ Some rest → IfSome others (λ more. length more < length rest)
    → size others + 1 ≤ size left
smaller left None rest is less = rw is (omega arith)
smaller left (Some more) rest is less = rw is (omega arith)
