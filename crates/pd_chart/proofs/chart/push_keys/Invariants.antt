use Rattle.std.proofs.Common.{◌≡◌, ◌++◌, take}
use Rattle.std.specs.List.{flat_map}
use Rattle.pd_chart.specs.Elements.{element_text}
use Rattle.pd_chart.specs.Chart.{key_of}
use Rattle.pd_chart.proofs.chart.push_keys.Given as goal

abbrev pub invariant-loop-port : goal.invariant-loop-port
invariant-loop-port l = l.text.items ≡ l.fn.text.items ++ flat_map (λ port. flat_map element_text (key_of port)) (take l.port-index l.ports)
