use Rattle.std.proofs.Common.{◌≡◌, ◌++◌, drop}
use Rattle.std.specs.List.{flat_map}
use Rattle.pd_chart.specs.Elements.{element_text}
use Rattle.pd_plot.specs.Lines.{tick_of}
use Rattle.pd_plot.proofs.line.push_ticks.Given as goal

abbrev pub invariant-loop-k : goal.invariant-loop-k
invariant-loop-k l =
    l.text.items ++ flat_map element_text (flat_map (tick_of l.top l.unit) (drop l.k-index l.ticks))
    ≡ l.fn.text.items ++ flat_map element_text (flat_map (tick_of l.top l.unit) l.ticks)
