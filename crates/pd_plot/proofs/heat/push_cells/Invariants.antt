use Rattle.std.proofs.Common.{◌≡◌, ◌++◌, drop}
use Rattle.std.specs.List.{flat_map}
use Rattle.pd_chart.specs.Elements.{element_text}
use Rattle.pd_plot.specs.Heats.{cell_elements}
use Rattle.pd_plot.proofs.heat.push_cells.Given as goal

abbrev pub invariant-loop-point : goal.invariant-loop-point
invariant-loop-point l =
    l.text.items ++ flat_map element_text (flat_map (cell_elements l.table l.unit l.span) (drop l.point-index l.points))
    ≡ l.fn.text.items ++ flat_map element_text (flat_map (cell_elements l.table l.unit l.span) l.points)
