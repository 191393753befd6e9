-- The picture of what comes of the rows: a panel for each thing that is measured, one below the other.
use Rattle.std.specs.Prelude.{ℕ, ◌+◌, ◌*◌, Bool, true, false, List, [], ◌∷◌, ◌++◌, codes, length, map, min, Option, None, Some, take}
use Rattle.pd_chart.specs.Elements.{Drawing, Element, Group}
use Rattle.pd_chart.specs.Picture.{head_of}
use Rattle.pd_chart.specs.Shapes.{box_of, style_of, words_at}
use Rattle.pd_chart.specs.declared.frame.Frame.{Frame}
use Rattle.pd_text.specs.declared.piece.Unit.{Unit as Measured}
use Rattle.pd_text.specs.declared.piece.Unit.TheVariants as measured
use Rattle.pd_units.specs.declared.unit.Unit.{Unit}
use Rattle.pd_units.specs.declared.unit.Unit.TheVariants.{Microseconds, Millivolts, Milliamperes, Microwatts}
use Rattle.pd_vary.specs.Tellings.{ask_words, unit_of}
use Rattle.pd_vary.specs.declared.ask.Ask.{Ask}
use Rattle.pd_vary.specs.declared.outcome.Outcome.{Outcome}
use Rattle.pd_plot.specs.Amounts.{in_brackets}
use Rattle.pd_plot.specs.Heats.{cell_height, heat_elements}
use Rattle.pd_plot.specs.Layouts.{LayoutData, heat, line, labels_of, places_of, points_from, set_words}
use Rattle.pd_plot.specs.Lines.{line_elements}
use Rattle.pd_plot.specs.Places.{columns_of, rows_of}
use Rattle.pd_plot.specs.Points.{LabelData, label_data}
use Rattle.pd_plot.specs.declared.heat.Table.{Table}
use Rattle.pd_plot.specs.declared.point.Point.{Point}
use Rattle.pd_plot.specs.declared.shape.Shape.{Shape}
use Rattle.pd_plot.specs.declared.shape.Shape.TheVariants as code

-- ---- the panels

-- what all panels have: labels below a line, or a table and the labels of its columns and rows
pub data ShapeData : Type 0 where
  curve : List LabelData → ShapeData
  cells : Table → (along down : List LabelData) → ShapeData

abbrev pub shape_data : Shape → ShapeData
shape_data (code.Curve labels) = curve (map label_data labels.items)
shape_data (code.Cells table along down) = cells table (map label_data along.items) (map label_data down.items)

-- labels below stand 60 pixels apart at least, and those beside 13
abbrev pub shape_of : LayoutData → List ℕ → ShapeData
shape_of (line along) places = curve (labels_of 600 along places)
shape_of (heat down along t) places = cells t (labels_of 600 along (columns_of t)) (labels_of 130 down (rows_of t))

abbrev pub panel_of : ShapeData → List ℕ → Option Unit → List Point → List Element
panel_of (curve labels) title unit points = line_elements labels title unit points
panel_of (cells t along down) title unit points = heat_elements t along down title unit points

unfoldable pub height_of : ShapeData → ℕ
height_of (curve labels) = 2300
height_of (cells t along down) = 700 + cell_height t * t.rows

-- the unit of what is measured
abbrev pub unit_as : Measured → Option Unit
unit_as measured.Plain = None
unit_as measured.Microseconds = Some Microseconds
unit_as measured.Millivolts = Some Millivolts
unit_as measured.Milliamperes = Some Milliamperes
unit_as measured.Microwatts = Some Microwatts

abbrev pub unit_in : Ask → Option Unit
unit_in ask = unit_as (unit_of ask.what)

-- `power 1 (W)`
unfoldable pub title_words : Ask → List ℕ
title_words ask = ask_words ask ++ in_brackets (unit_in ask)

-- the panel of what is measured at an index
unfoldable pub panel_at : ShapeData → List ℕ → List Outcome → ℕ → Ask → List Element
panel_at s places outcomes index ask = panel_of s (title_words ask) (unit_in ask) (points_from index places 0 outcomes)

abbrev pub groups_from : ShapeData → List ℕ → List Outcome → ℕ → ℕ → List Ask → List Group
groups_from s places outcomes down index [] = []
groups_from s places outcomes down index (ask ∷ asks) =
    record { down = down; elements = panel_at s places outcomes index ask }
    ∷ groups_from s places outcomes (down + height_of s) (index + 1) asks

-- ---- what stands above them

abbrev pub key_of : List ℕ → ℕ → List ℕ → List Element
key_of class left words =
    box_of class (record { x = left; y = 480; width = 100; height = 100 }) []
    ∷ words_at (codes "tick") (left + 150) 570 words ∷ []

-- what the marks stand for; without expectations none fails
abbrev pub held_keys : ShapeData → Bool → List Element
held_keys s false = []
held_keys (curve labels) true = key_of (codes "point") 2700 (codes "all hold") ++ key_of (codes "miss") 3900 (codes "not all hold")
held_keys (cells t along down) true = key_of (codes "fails") 2700 (codes "not all hold")

abbrev pub keys_of : ShapeData → Bool → List Element
keys_of (curve labels) conditional = key_of (codes "gap") 700 (codes "refused, or none") ++ held_keys (curve labels) conditional
keys_of (cells t along down) conditional =
    key_of (codes "refused") 700 (codes "refused")
    ++ (key_of (codes "none") 1700 (codes "none") ++ held_keys (cells t along down) conditional)

unfoldable pub caption_words : LayoutData → List ℕ
caption_words (line along) = codes "along: " ++ set_words along
caption_words (heat down along t) = codes "down: " ++ (set_words down ++ (codes "; along: " ++ set_words along))

-- whose runs they are, where that is said
abbrev pub name_elements : List ℕ → List Element
name_elements [] = []
name_elements (x ∷ xs) = words_at (codes "head end") 11600 190 (x ∷ xs) ∷ []

abbrev pub words_above : LayoutData → List ℕ → List Element
words_above layout name =
    words_at (codes "head") 700 190 (codes "What edits lead to")
    ∷ (name_elements name ++ words_at (codes "tick") 700 370 (caption_words layout) ∷ [])

-- ---- the picture

-- how the classes look: ten steps of viridis for values, which stay in order for who doesn't see all colours, and the red of faults
unfoldable pub rules : List ℕ
rules =
    codes "svg{background:#fff;font:100px sans-serif}.head{font-size:130px}.middle{text-anchor:middle}.end{text-anchor:end}"
    ++ codes "text{paint-order:stroke;stroke:#fff;stroke-width:20}.rule{fill:#ddd}.curve{fill:none;stroke:#0072b2;stroke-width:12}"
    ++ codes ".point{fill:#0072b2;rx:50px}.miss{fill:#fff;stroke:#c00;stroke-width:16;rx:50px}.gap{fill:#888}.refused{fill:#ccc}"
    ++ codes ".none{fill:#fff;stroke:#ccc;stroke-width:5}.cross{fill:none;stroke:#888;stroke-width:8}"
    ++ codes ".fails{fill:none;stroke:#c00;stroke-width:12}.v0{fill:#fde725}.v1{fill:#b5de2b}.v2{fill:#6ece58}.v3{fill:#35b779}"
    ++ codes ".v4{fill:#1f9e89}.v5{fill:#26828e}.v6{fill:#31688e}.v7{fill:#3e4989}.v8{fill:#482878}.v9{fill:#440154}"

-- the width of the picture is that of other pictures
abbrev pub width : Frame
width = record { from = 0; to = 0; width = 10900 }

-- all that may be asked of eight ports is less
abbrev pub few : List Ask → List Ask
few asks = take (min (length asks) 100) asks

abbrev pub bottom_of : ShapeData → ℕ → ℕ
bottom_of s panels = 700 + height_of s * panels

abbrev pub elements_of : LayoutData → ShapeData → Bool → List ℕ → List Element
elements_of layout s conditional name = style_of rules ∷ (words_above layout name ++ keys_of s conditional)

abbrev pub picture : LayoutData → ShapeData → List ℕ → List Ask → Bool → List Outcome → List ℕ → Drawing
picture layout s places asks conditional outcomes name = record {
  attributes = head_of width (bottom_of s (length asks));
  elements = elements_of layout s conditional name;
  groups = groups_from s places outcomes 700 0 asks;
}

-- the picture of what comes of rows, of which this is asked, and of which something is expected or not
unfoldable pub plot_of : LayoutData → List Ask → Bool → List Outcome → List ℕ → Drawing
plot_of layout asks conditional outcomes name =
    picture layout (shape_of layout (places_of layout (length outcomes))) (places_of layout (length outcomes)) (few asks)
    conditional outcomes name
