use Rattle.std.proofs.Common.{◌≡◌, ◌++◌, drop, map}
use Rattle.std.specs.List.{flat_map}
use Rattle.pd_chart.specs.Elements.{element_text}
use Rattle.pd_plot.specs.Heats.{swatch}
use Rattle.pd_plot.proofs.heat.push_swatches.Given as goal

abbrev pub invariant-loop-level : goal.invariant-loop-level
invariant-loop-level l =
    l.text.items ++ flat_map element_text (map swatch (drop l.level-index l.levels))
    ≡ l.fn.text.items ++ flat_map element_text (map swatch l.levels)
