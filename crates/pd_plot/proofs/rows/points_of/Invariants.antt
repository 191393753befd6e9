use Rattle.std.proofs.Common.{◌≡◌, ◌++◌, drop}
use Rattle.pd_plot.specs.Layouts.{points_from}
use Rattle.pd_plot.proofs.rows.points_of.Given as goal

abbrev pub invariant-loop-outcome : goal.invariant-loop-outcome
invariant-loop-outcome l = record {
  points_are : l.points.items ++ points_from l.index l.places l.row (drop l.outcome-index l.outcomes)
      ≡ points_from l.index l.places 0 l.outcomes;
  row_is : l.row ≡ l.outcome-index;
}
