use Rattle.std.proofs.Common.{◌≡◌, ◌++◌, take}
use Rattle.std.specs.List.{flat_map}
use Rattle.pd_chart.specs.Elements.{element_text}
use Rattle.pd_chart.specs.Chart.{time_tick}
use Rattle.pd_chart.proofs.chart.push_time_ticks.Given as goal

abbrev pub invariant-loop-k : goal.invariant-loop-k
invariant-loop-k l =
    l.text.items ≡ l.fn.text.items ++ flat_map (λ k. flat_map element_text (time_tick l.frame l.bottom k)) (take l.k-index l.ticks)
