use Rattle.std.proofs.Common.{ℕ, ◌+◌, ◌-◌, ◌*◌, ◌/◌, ◌≤◌, max, arith}
use Rattle.std.proofs.Math.Nat.{min-le_right}
use Rattle.pd_chart.specs.Scale.{scaled}
use Rattle.pd_plot.specs.Lines.{x_at, y_of}
use Rattle.pd_plot.proofs.laws.points_are_within.Goals as goal

pub returns : goal.returns
unfolding x_at y_of
returns c = λ span top number value.
    let across : scaled (number - span.least) (span.greatest - span.least) 10900 ≤ 10900 =
    min-le_right ((number - span.least) * 10900 / max 1 (span.greatest - span.least)) 10900 in
    let up : scaled value top 1600 ≤ 1600 = min-le_right (value * 1600 / max 1 top) 1600 in
    record {
      left = omega arith;
      right = omega (arith, across);
      above = omega (arith, up);
      below = omega arith;
    }
