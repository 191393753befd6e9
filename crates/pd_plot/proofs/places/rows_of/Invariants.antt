use Rattle.std.proofs.Common.{◌≡◌, map}
use Rattle.std.specs.List.{range_with_len}
use Rattle.pd_plot.specs.Heats.{row_at}
use Rattle.pd_plot.proofs.places.rows_of.Given as goal

abbrev pub invariant-loop-row : goal.invariant-loop-row
invariant-loop-row l = l.places.items ≡ map (row_at l.table) (range_with_len 0 l.row)
