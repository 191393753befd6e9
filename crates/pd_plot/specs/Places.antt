-- Where the values of sets stand, and their labels.
use Rattle.std.specs.Prelude.{ℕ, ◌+◌, ◌&&◌, ◌||◌, nat_lt, Bool, true, false, List, [], ◌∷◌, fold, length, map, if◌then◌else◌, is_some}
use Rattle.std.specs.Prelude.{Option, None, Some, slice_get, unwrap_or}
use Rattle.std.specs.List.{list_all, range_with_len}
use Rattle.pd_edit_lines.specs.Words.{number}
use Rattle.pd_units.specs.declared.unit.Unit.{Unit}
use Rattle.pd_plot.specs.Amounts.{amount}
use Rattle.pd_plot.specs.Heats.{column_at, no_span, row_at}
use Rattle.pd_plot.specs.Lines.{x_at}
use Rattle.pd_plot.specs.Points.{LabelData, has_room, widened}
use Rattle.pd_plot.specs.declared.heat.Table.{Table}
use Rattle.pd_plot.specs.declared.point.Span.{Span}

-- ---- where the values of a set stand

abbrev pub is_number : List ℕ → Bool
is_number word = is_some (number word)

abbrev pub number_of : List ℕ → ℕ
number_of word = unwrap_or (number word) 0

-- each greater than the one before, or each less
abbrev pub follows : Bool → Option ℕ → ℕ → Bool
follows up None n = true
follows true (Some last) n = nat_lt last n
follows false (Some last) n = nat_lt n last

abbrev pub in_order : Bool → Option ℕ → List ℕ → Bool
in_order up last [] = true
in_order up last (n ∷ ns) = follows up last n && in_order up (Some n) ns

abbrev pub are_in_order : List ℕ → Bool
are_in_order ns = in_order true None ns || in_order false None ns

-- the values stand at their numbers where these rise or fall, else one after the other
unfoldable pub numbers_of : List (List ℕ) → List ℕ
numbers_of words =
    if list_all is_number words && are_in_order (map number_of words) then map number_of words else range_with_len 0 (length words)

unfoldable pub whole_span : List ℕ → Span
whole_span ns = unwrap_or (fold widened None ns) no_span

unfoldable pub xs_of : List (List ℕ) → List ℕ
xs_of words = map (x_at (whole_span (numbers_of words))) (numbers_of words)

abbrev pub place_at : List ℕ → ℕ → ℕ
place_at places row = unwrap_or (slice_get places row) 0

-- the places of the columns and of the rows of a table
abbrev pub columns_of : Table → List ℕ
columns_of t = map (column_at t) (range_with_len 0 t.columns)

abbrev pub rows_of : Table → List ℕ
rows_of t = map (row_at t) (range_with_len 0 t.rows)

-- ---- the labels of a set

-- a value as it is read: a number with a unit in volts, amperes, watts or seconds
abbrev pub shown_by : Unit → List ℕ → Option ℕ → List ℕ
shown_by unit word None = word
shown_by unit word (Some n) = amount (Some unit) n

abbrev pub shown : Option Unit → List ℕ → List ℕ
shown None word = word
shown (Some unit) word = shown_by unit word (number word)

-- each where there is room behind the one before
unfoldable pub labels_from : ℕ → Option Unit → List ℕ → Option ℕ → ℕ → List (List ℕ) → List LabelData
labels_from space unit places last row [] = []
labels_from space unit places last row (word ∷ words) =
    if has_room space last (place_at places row)
    then record { at = place_at places row; text = shown unit word }
    ∷ labels_from space unit places (Some (place_at places row)) (row + 1) words
    else labels_from space unit places last (row + 1) words
