-- The panel of what is measured, by the values of two sets: a cell for each row. Those of the second set go along, those of the first
-- down.
use Rattle.std.specs.Prelude.{ℕ, ◌+◌, ◌-◌, ◌*◌, ◌/◌, ◌%◌, ◌&&◌, min, max, nat_le, Bool, true, false, List, [], ◌∷◌, ◌++◌, codes, decimal}
use Rattle.std.specs.Prelude.{length, map, if◌then◌else◌, Option, None, Some, unwrap_or}
use Rattle.std.specs.List.{flat_map}
use Rattle.pd_chart.specs.Elements.{Element}
use Rattle.pd_chart.specs.Scale.{scaled}
use Rattle.pd_chart.specs.Shapes.{box_of, path_of, words_at}
use Rattle.pd_chart.specs.Chart.{line_text}
use Rattle.pd_chart.specs.declared.shapes.Area.{Area}
use Rattle.pd_units.specs.declared.unit.Unit.{Unit}
use Rattle.pd_plot.specs.Amounts.{amount, whole_amount}
use Rattle.pd_plot.specs.Lines.{gap_words, label_below, title_of}
use Rattle.pd_plot.specs.Points.{LabelData, span_of}
use Rattle.pd_plot.specs.declared.heat.Table.{Table}
use Rattle.pd_plot.specs.declared.point.Point.{Point}
use Rattle.pd_plot.specs.declared.point.Span.{Span}

-- ---- where the cells are

abbrev pub cell_width : Table → ℕ
cell_width t = min 1200 (10900 / max 1 t.columns)

abbrev pub cell_height : Table → ℕ
cell_height t = min 300 (3000 / max 1 t.rows)

abbrev pub column_left : Table → ℕ → ℕ
column_left t column = 700 + cell_width t * column

abbrev pub row_top : Table → ℕ → ℕ
row_top t row = 250 + cell_height t * row

-- the cell of the row at a place of the table; what is past its last row is below it
unfoldable pub cell_of : Table → ℕ → Area
cell_of t place = record {
  x = column_left t (place % max 1 t.columns);
  y = row_top t (min (place / max 1 t.columns) t.rows);
  width = cell_width t;
  height = cell_height t;
}

-- where the label of a column and of a row stands: at its middle
unfoldable pub column_at : Table → ℕ → ℕ
column_at t column = column_left t column + cell_width t / 2

unfoldable pub row_at : Table → ℕ → ℕ
row_at t row = row_top t row + cell_height t / 2 + 35

unfoldable pub bottom_of : Table → ℕ
bottom_of t = row_top t t.rows

-- ---- the colour of a value

-- one of ten, from that of the least value to that of the greatest
unfoldable pub level : Span → ℕ → ℕ
level span value = scaled (value - span.least) (span.greatest - span.least) 9

unfoldable pub level_class : ℕ → List ℕ
level_class n = codes "v" ++ decimal n

unfoldable pub swatch : ℕ → Element
swatch n = box_of (level_class n) (record { x = 8600 + 100 * n; y = 60; width = 100; height = 100 }) []

abbrev pub swatches : List ℕ
swatches = 0 ∷ 1 ∷ 2 ∷ 3 ∷ 4 ∷ 5 ∷ 6 ∷ 7 ∷ 8 ∷ 9 ∷ []

unfoldable pub least_words : Option Unit → ℕ → Element
least_words unit least = words_at (codes "tick end") 8560 150 (whole_amount unit least)

unfoldable pub greatest_words : Option Unit → ℕ → Element
greatest_words unit greatest = words_at (codes "tick") 9640 150 (whole_amount unit greatest)

-- what the colours stand for, where there is a value
abbrev pub legend : Option Unit → Option Span → List Element
legend unit None = []
legend unit (Some span) = least_words unit span.least ∷ greatest_words unit span.greatest ∷ map swatch swatches

-- ---- the rows

abbrev pub no_span : Span
no_span = record { least = 0; greatest = 0 }

abbrev pub cell_class : Span → Point → Option ℕ → List ℕ
cell_class span point (Some value) = level_class (level span value)
cell_class span point None = gap_words point.refused

abbrev pub cell_words : Option Unit → Point → Option ℕ → List ℕ
cell_words unit point (Some value) = whole_amount unit value
cell_words unit point None = gap_words point.refused

unfoldable pub box_in : Area → Option Unit → Span → Point → Element
box_in area unit span point = box_of (cell_class span point point.value) area (cell_words unit point point.value)

-- a row whose edits are refused is crossed out
unfoldable pub cross_text : Area → List ℕ
cross_text a = line_text a.x a.y (a.x + a.width) (a.y + a.height) ++ line_text a.x (a.y + a.height) (a.x + a.width) a.y

abbrev pub cross : Area → Bool → List Element
cross area true = path_of (codes "cross") (cross_text area) [] ∷ []
cross area false = []

-- one in which not all that is expected holds has a frame
abbrev pub within : Area → Area
within a = record { x = a.x + 8; y = a.y + 8; width = a.width - 16; height = a.height - 16 }

abbrev pub frame : Area → Bool → List Element
frame area true = box_of (codes "fails") (within area) [] ∷ []
frame area false = []

-- a value stands in its cell where it has room
abbrev pub has_room : Area → List ℕ → Bool
has_room a text = nat_le (60 * length text + 40) a.width && nat_le 130 a.height

abbrev pub words_in : Area → List ℕ → List Element
words_in a text =
    if has_room a text then words_at (codes "tick middle") (a.x + a.width / 2) (a.y + a.height / 2 + 35) text ∷ [] else []

abbrev pub value_in : Area → Option Unit → Option ℕ → List Element
value_in area unit None = []
value_in area unit (Some value) = words_in area (amount unit value)

abbrev pub elements_in : Area → Option Unit → Span → Point → List Element
elements_in area unit span point =
    box_in area unit span point ∷ (cross area point.refused ++ (frame area point.fails ++ value_in area unit point.value))

unfoldable pub cell_elements : Table → Option Unit → Span → Point → List Element
cell_elements t unit span point = elements_in (cell_of t point.at) unit span point

-- ---- the panel

-- a value of the first set, beside its row
unfoldable pub label_beside : LabelData → Element
label_beside label = words_at (codes "tick end") 660 label.at label.text

unfoldable pub heat_elements : Table → (along down : List LabelData) → List ℕ → Option Unit → List Point → List Element
heat_elements t along down title unit points =
    title_of title ∷ (legend unit (span_of points) ++ (flat_map (cell_elements t unit (unwrap_or (span_of points) no_span)) points
    ++ (map (label_below (bottom_of t + 170)) along ++ map label_beside down)))
