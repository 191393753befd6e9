-- What is drawn of rows: where each stands, and its value, where it has one.
use Rattle.std.specs.Prelude.{ℕ, ◌+◌, min, max, nat_le, ◌||◌, Bool, true, List, [], ◌∷◌, fold, if◌then◌else◌, Option, None, Some}
use Rattle.pd_plot.specs.declared.point.Label.{Label}
use Rattle.pd_plot.specs.declared.point.Point.{Point}
use Rattle.pd_plot.specs.declared.point.Span.{Span}

-- ---- the least and the greatest of some numbers

abbrev pub widened : Option Span → ℕ → Option Span
widened None number = Some (record { least = number; greatest = number })
widened (Some span) number = Some (record { least = min span.least number; greatest = max span.greatest number })

abbrev pub widened_by : Option Span → Option ℕ → Option Span
widened_by span None = span
widened_by span (Some value) = widened span value

abbrev pub widened_on : Option Span → Point → Option Span
widened_on span point = widened_by span point.value

-- those of the values of rows
unfoldable pub span_of : List Point → Option Span
span_of points = fold widened_on None points

-- up to which value a panel reaches
abbrev pub greatest_of : Option Span → ℕ
greatest_of None = 0
greatest_of (Some span) = span.greatest

unfoldable pub top_of : List Point → ℕ
top_of points = greatest_of (span_of points)

-- ---- labels

-- where it stands, and what it says
pub record LabelData : Type 0 where
  pub at : ℕ
  pub text : List ℕ

abbrev pub label_data : Label → LabelData
label_data label = record { at = label.at; text = label.text.items }

-- there is so much room between a place and the one of the label before
abbrev pub has_room : ℕ → Option ℕ → ℕ → Bool
has_room space None at = true
has_room space (Some last) at = nat_le (last + space) at || nat_le (at + space) last
