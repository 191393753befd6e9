-- What holds of the marks of rows.
use Rattle.std.specs.Prelude.{◌≡◌, ◌≤◌, ◌<◌, ℕ, ◌+◌, ◌*◌, List, length, map}
use Rattle.pd_units.specs.declared.unit.Unit.{Unit}
use Rattle.pd_plot.specs.Heats.{cell_of, level}
use Rattle.pd_plot.specs.Lines.{x_at, y_of}
use Rattle.pd_plot.specs.declared.heat.Table.{Table}
use Rattle.pd_plot.specs.declared.point.Span.{Span}

-- a point is within its panel
pub record IsWithin (span : Span) (top number value : ℕ) : Type 0 where
  pub left : 700 ≤ x_at span number
  pub right : x_at span number ≤ 11600
  pub above : 250 ≤ y_of top value
  pub below : y_of top value ≤ 1850

abbrev pub PointsAreWithin : Type 0
PointsAreWithin = (span : Span) (top number value : ℕ) → IsWithin span top number value

-- A greater value is never lower, a greater number never further left, and the colour of a greater value never before that of a lesser
-- one.
abbrev pub GreaterIsHigher : Type 0
GreaterIsHigher = (top a b : ℕ) → a ≤ b → y_of top b ≤ y_of top a

abbrev pub GreaterIsFurther : Type 0
GreaterIsFurther = (span : Span) (a b : ℕ) → a ≤ b → x_at span a ≤ x_at span b

abbrev pub GreaterIsDarker : Type 0
GreaterIsDarker = (span : Span) (a b : ℕ) → a ≤ b → level span a ≤ level span b
