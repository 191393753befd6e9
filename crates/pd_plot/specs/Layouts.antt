-- How the rows of one set or two are laid out, and what is drawn of each.
use Rattle.std.specs.Prelude.{ℕ, ◌+◌, ◌&&◌, nat_le, Bool, true, false, List, [], ◌∷◌, ◌++◌, codes, map, not, if◌then◌else◌}
use Rattle.std.specs.Prelude.{Option, None, Some, Result, Ok, Err, slice_get, unwrap_or}
use Rattle.std.specs.List.{range_with_len}
use Rattle.pd_units.specs.declared.unit.Unit.{Unit}
use Rattle.pd_vary.specs.Rows.{all_hold}
use Rattle.pd_vary.specs.Sets.{SetData, all_values, count_of, set_data, unit_behind}
use Rattle.pd_vary.specs.declared.outcome.Outcome.{Outcome}
use Rattle.pd_vary.specs.declared.outcome.Outcome.TheVariants.{Ran, Refused}
use Rattle.pd_plot.specs.Amounts.{in_brackets}
use Rattle.pd_plot.specs.Places.{labels_from, place_at, xs_of}
use Rattle.pd_plot.specs.Points.{LabelData}
use Rattle.pd_plot.specs.declared.heat.Table.{Table}
use Rattle.pd_plot.specs.declared.layout.Layout.{Layout}
use Rattle.pd_plot.specs.declared.layout.Layout.TheVariants as code
use Rattle.pd_plot.specs.declared.layout.Unfit.{Unfit}
use Rattle.pd_plot.specs.declared.layout.Unfit.TheVariants.{Sets, Rows, Side}
use Rattle.pd_plot.specs.declared.point.Point.{Point}

-- ---- which layout

-- a line along one set; or a table, down the first set and along the second
pub data LayoutData : Type 0 where
  line : (along : SetData) → LayoutData
  heat : (down along : SetData) → (table : Table) → LayoutData

abbrev pub layout_data : Layout → LayoutData
layout_data (code.Line along) = line (set_data along.now)
layout_data (code.Heat down along table) = heat (set_data down.now) (set_data along.now) table

-- a line has 2,000 points at most, and a table 100 rows and columns
abbrev pub line_by : SetData → Result LayoutData Unfit
line_by along = if nat_le (count_of along.values) 2000 then Ok (line along) else Err Rows

abbrev pub table_of : SetData → SetData → Table
table_of down along = record { columns = count_of along.values; rows = count_of down.values }

abbrev pub heat_by : SetData → SetData → Result LayoutData Unfit
heat_by down along =
    if nat_le (count_of down.values) 100 && nat_le (count_of along.values) 100 then Ok (heat down along (table_of down along)) else Err Side

abbrev pub layout_of : List SetData → Result LayoutData Unfit
layout_of [] = Err Sets
layout_of (along ∷ []) = line_by along
layout_of (down ∷ along ∷ []) = heat_by down along
layout_of (down ∷ along ∷ more ∷ others) = Err Sets

-- ---- where the rows stand

-- along the line, or by their numbers in the table
abbrev pub places_of : LayoutData → ℕ → List ℕ
places_of (line along) rows = xs_of (all_values along.values)
places_of (heat down along table) rows = range_with_len 0 rows

-- ---- what is drawn of a row

-- the number of what is measured at an index, where the row ran and has it
abbrev pub value_at : ℕ → List (Option ℕ) → Option ℕ
value_at index numbers = unwrap_or (slice_get numbers index) None

abbrev pub point_of : ℕ → ℕ → Outcome → Point
point_of index at (Refused refusal) = record { at = at; value = None; refused = true; fails = false }
point_of index at (Ran numbers verdicts) = record {
  at = at;
  value = value_at index numbers.items;
  refused = false;
  fails = not (all_hold (Ran numbers verdicts));
}

-- the first is the row at this number
unfoldable pub points_from : ℕ → List ℕ → ℕ → List Outcome → List Point
points_from index places row [] = []
points_from index places row (outcome ∷ outcomes) =
    point_of index (place_at places row) outcome ∷ points_from index places (row + 1) outcomes

-- ---- a set

abbrev pub unit_of : SetData → Option Unit
unit_of s = unit_behind s.before

abbrev pub labels_of : ℕ → SetData → List ℕ → List LabelData
labels_of space s places = labels_from space (unit_of s) places None 0 (all_values s.values)

-- `floor 2 {} (W)`
abbrev pub set_words : SetData → List ℕ
set_words s = s.before ++ (codes "{}" ++ (s.behind ++ in_brackets (unit_of s)))
