-- The panel of what is measured, by the values of one set: a point for each row, at the place of its value. All places are in tenths of
-- a pixel; those in a panel are from its top.
use Rattle.std.specs.Prelude.{ℕ, ◌+◌, ◌-◌, ◌*◌, nat_le, Bool, false, List, [], ◌∷◌, ◌++◌, codes, decimal, map, if◌then◌else◌}
use Rattle.std.specs.Prelude.{Option, None, Some, is_some}
use Rattle.std.specs.List.{flat_map}
use Rattle.pd_chart.specs.Elements.{Element}
use Rattle.pd_chart.specs.Scale.{scaled}
use Rattle.pd_chart.specs.Shapes.{box_of, path_of, words_at}
use Rattle.pd_chart.specs.Ticks.{step_of}
use Rattle.pd_units.specs.declared.unit.Unit.{Unit}
use Rattle.pd_plot.specs.Amounts.{amount, whole_amount}
use Rattle.pd_plot.specs.Points.{LabelData, top_of}
use Rattle.pd_plot.specs.declared.point.Point.{Point}
use Rattle.pd_plot.specs.declared.point.Span.{Span}

-- the x of a number, and the y of a value, where the panel reaches up to another
unfoldable pub x_at : Span → ℕ → ℕ
x_at span number = 700 + scaled (number - span.least) (span.greatest - span.least) 10900

unfoldable pub y_of : ℕ → ℕ → ℕ
y_of top value = 1850 - scaled value top 1600

-- ---- the axes

-- eight steps at most are up to the greatest value
abbrev pub step : ℕ → ℕ
step top = step_of 8 top

unfoldable pub tick_line : ℕ → Element
tick_line y = box_of (codes "rule") (record { x = 700; y = y; width = 10900; height = 5 }) []

unfoldable pub tick_words : ℕ → Option Unit → ℕ → Element
tick_words y unit value = words_at (codes "tick end") 640 (y + 35) (amount unit value)

-- one of the multiples of the step, where the panel reaches up to it
unfoldable pub tick_of : ℕ → Option Unit → ℕ → List Element
tick_of top unit k =
    if nat_le (k * step top) top then tick_line (y_of top (k * step top)) ∷ tick_words (y_of top (k * step top)) unit (k * step top) ∷ []
    else []

abbrev pub tick_numbers : List ℕ
tick_numbers = 0 ∷ 1 ∷ 2 ∷ 3 ∷ 4 ∷ 5 ∷ 6 ∷ 7 ∷ 8 ∷ []

-- a value of the set, so far down
unfoldable pub label_below : ℕ → LabelData → Element
label_below y label = words_at (codes "tick middle") label.at y label.text

-- ---- the rows

-- a line to a point from the one before, where the row before has one
abbrev pub stroke : Bool → ℕ
stroke joined = if joined then 76 else 77

abbrev pub step_by : ℕ → Bool → ℕ → Option ℕ → List ℕ
step_by top joined at None = []
step_by top joined at (Some value) = stroke joined ∷ (decimal at ++ (32 ∷ decimal (y_of top value)))

unfoldable pub curve_from : ℕ → Bool → List Point → List ℕ
curve_from top joined [] = []
curve_from top joined (point ∷ points) = step_by top joined point.at point.value ++ curve_from top (is_some point.value) points

unfoldable pub curve_of : ℕ → List Point → Element
curve_of top points = path_of (codes "curve") (curve_from top false points) []

abbrev pub dot_class : Bool → List ℕ
dot_class fails = if fails then codes "miss" else codes "point"

-- why a row has no value
abbrev pub gap_words : Bool → List ℕ
gap_words refused = if refused then codes "refused" else codes "none"

unfoldable pub dot_of : ℕ → Option Unit → ℕ → Bool → ℕ → Element
dot_of top unit at fails value =
    box_of (dot_class fails) (record { x = at - 35; y = y_of top value - 35; width = 70; height = 70 }) (whole_amount unit value)

unfoldable pub gap_of : ℕ → Bool → Element
gap_of at refused = box_of (codes "gap") (record { x = at - 15; y = 1800; width = 30; height = 100 }) (gap_words refused)

abbrev pub mark_by : ℕ → Option Unit → Point → Option ℕ → Element
mark_by top unit point None = gap_of point.at point.refused
mark_by top unit point (Some value) = dot_of top unit point.at point.fails value

-- the mark of a row: at its value, or at the axis
unfoldable pub mark_of : ℕ → Option Unit → Point → Element
mark_of top unit point = mark_by top unit point point.value

-- ---- the panel

unfoldable pub title_of : List ℕ → Element
title_of title = words_at (codes "tick") 700 150 title

unfoldable pub line_elements : List LabelData → List ℕ → Option Unit → List Point → List Element
line_elements labels title unit points =
    title_of title ∷ (flat_map (tick_of (top_of points) unit) tick_numbers ++ (map (label_below 2020) labels
    ++ (curve_of (top_of points) points ∷ map (mark_of (top_of points) unit) points)))
