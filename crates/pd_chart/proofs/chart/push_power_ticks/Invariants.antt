use Rattle.std.proofs.Common.{◌≡◌, ◌++◌, take}
use Rattle.std.specs.List.{flat_map}
use Rattle.pd_chart.specs.Elements.{element_text}
use Rattle.pd_chart.specs.Chart.{power_tick}
use Rattle.pd_chart.proofs.chart.push_power_ticks.Given as goal

abbrev pub invariant-loop-k : goal.invariant-loop-k
invariant-loop-k l =
    l.text.items ≡ l.fn.text.items ++ flat_map (λ k. flat_map element_text (power_tick l.frame l.top k)) (take l.k-index l.ticks)
