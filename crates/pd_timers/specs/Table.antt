-- State tables: rows that are tried in order, of which the first that fits is taken. The kinds of states S, of cues C (what
-- stands in the column of stimuli), of guards G (what stands in brackets), of next states N and of acts D are each table's.
use Rattle.std.specs.Prelude.{ℕ, ◌+◌, Bool, true, ◌==◌, ◌&&◌, not, filter, if◌then◌else◌, List, [], ◌∷◌}
use Rattle.std.specs.List.{list_any}

pub record Row (S C G N D : Type 0) : Type 0 where
  pub number : ℕ
  pub states : List S
  pub cues : List C
  pub guard : G
  pub next : N
  pub deeds : List D

-- a row, in the order of a table's columns
abbrev pub row : {S C G N D : Type 0} → ℕ → List S → List C → G → N → List D → Row S C G N D
row number states cues guard next deeds =
    record { number = number; states = states; cues = cues; guard = guard; next = next; deeds = deeds }

-- whether a state is among some, where each has a place of its own by which two are told apart
abbrev pub is_among : {S : Type 0} → (S → ℕ) → S → List S → Bool
is_among place s states = list_any (λ t. place s == place t) states

-- of some states all but others
abbrev pub without : {S : Type 0} → (S → ℕ) → List S → List S → List S
without place states others = filter (λ s. not (is_among place s others)) states

-- the first row for which a test holds, and else this one
abbrev pub first_row : {R : Type 0} → (R → Bool) → R → List R → R
first_row test otherwise [] = otherwise
first_row test otherwise (r ∷ rows) = if test r then r else first_row test otherwise rows

-- whether each row's number is its place: the first row has this number, and each that follows the next one
abbrev pub are_numbered_from : {S C G N D : Type 0} → ℕ → List (Row S C G N D) → Bool
are_numbered_from n [] = true
are_numbered_from n (r ∷ rows) = (r.number == n) && are_numbered_from (n + 1) rows
