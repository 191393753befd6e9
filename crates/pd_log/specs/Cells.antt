-- The cells of a line of a table: RFC 4180, with any separator, and without line ends in a cell.
use Rattle.std.specs.Prelude.{ℕ, zero, suc, ◌-◌, ◌==◌, ◌&&◌, nat_le, nat_lt, not, Bool, false, List, [], ◌∷◌, length, take, drop}
use Rattle.std.specs.Prelude.{slice_index, Option, Some, None, option_map, if◌then◌else◌}
use Rattle.pd_log.specs.Stamps.{unspaced}

-- a cell is in quotation marks if it begins with one
abbrev pub begins_marked : List ℕ → Bool
begins_marked [] = false
begins_marked (c ∷ cs) = c == 34

-- a separator ends a cell, but within its marks
abbrev pub ends_cell : ℕ → Bool → ℕ → Bool
ends_cell separator inside c = c == separator && not inside

-- whether what stands behind a byte is within the marks of its cell
abbrev pub inside_behind : Bool → Bool → ℕ → Bool
inside_behind marked inside c = if marked && c == 34 then not inside else inside

abbrev pub in_front : ℕ → List (List ℕ) → List (List ℕ)
in_front c [] = (c ∷ []) ∷ []
in_front c (cell ∷ others) = (c ∷ cell) ∷ others

abbrev pub cells_in : ℕ → Bool → Bool → List ℕ → List (List ℕ)
cells_in separator marked inside [] = [] ∷ []
cells_in separator marked inside (c ∷ cs) =
    if ends_cell separator inside c then [] ∷ cells_in separator (begins_marked cs) false cs
    else in_front c (cells_in separator marked (inside_behind marked inside c) cs)

-- the cells of a line, with their marks
abbrev pub cells : ℕ → List ℕ → List (List ℕ)
cells separator line = cells_in separator (begins_marked line) false line

-- how many bytes stand before the separator that ends a cell
abbrev pub cell_length : ℕ → Bool → Bool → List ℕ → ℕ
cell_length separator marked inside [] = 0
cell_length separator marked inside (c ∷ cs) =
    if ends_cell separator inside c then 0 else suc (cell_length separator marked (inside_behind marked inside c) cs)

-- the cells of what stands behind a cell, if anything does
abbrev pub cells_behind : ℕ → Option (List ℕ) → List (List ℕ)
cells_behind separator None = []
cells_behind separator (Some rest) = cells separator rest

-- between two quotation marks
abbrev pub is_marked : List ℕ → Bool
is_marked cell = nat_le 2 (length cell) && (slice_index cell 0 == 34 && slice_index cell (length cell - 1) == 34)

-- what a cell holds: without the spaces before it, and without its marks
abbrev pub held_in : List ℕ → List ℕ
held_in cell = by_marks (unspaced cell)
  where
    by_marks : List ℕ → List ℕ
    by_marks cell = if is_marked cell then take (length cell - 2) (drop 1 cell) else cell

abbrev pub nth : ℕ → List (List ℕ) → Option (List ℕ)
nth n [] = None
nth zero (cell ∷ others) = Some cell
nth (suc n) (cell ∷ others) = nth n others

-- what the cell of a place holds, where there is one
abbrev pub cell_at : Option ℕ → List (List ℕ) → Option (List ℕ)
cell_at None all = None
cell_at (Some place) all = option_map held_in (nth place all)

-- a line without the carriage return at its end
abbrev pub unreturned : List ℕ → List ℕ
unreturned line = if ends_returned line then take (length line - 1) line else line
  where
    ends_returned : List ℕ → Bool
    ends_returned line = nat_lt 0 (length line) && slice_index line (length line - 1) == 13
