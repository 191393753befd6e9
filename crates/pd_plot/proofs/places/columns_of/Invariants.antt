use Rattle.std.proofs.Common.{◌≡◌, map}
use Rattle.std.specs.List.{range_with_len}
use Rattle.pd_plot.specs.Heats.{column_at}
use Rattle.pd_plot.proofs.places.columns_of.Given as goal

abbrev pub invariant-loop-column : goal.invariant-loop-column
invariant-loop-column l = l.places.items ≡ map (column_at l.table) (range_with_len 0 l.column)
