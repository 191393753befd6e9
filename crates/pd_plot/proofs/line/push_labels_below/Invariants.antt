use Rattle.std.proofs.Common.{◌≡◌, ◌++◌, drop, map}
use Rattle.std.specs.List.{flat_map}
use Rattle.pd_chart.specs.Elements.{element_text}
use Rattle.pd_plot.specs.Lines.{label_below}
use Rattle.pd_plot.specs.Points.{label_data}
use Rattle.pd_plot.proofs.line.push_labels_below.Given as goal

abbrev pub invariant-loop-label : goal.invariant-loop-label
invariant-loop-label l =
    l.text.items ++ flat_map element_text (map (label_below l.y) (map label_data (drop l.label-index l.labels)))
    ≡ l.fn.text.items ++ flat_map element_text (map (label_below l.y) (map label_data l.labels))
