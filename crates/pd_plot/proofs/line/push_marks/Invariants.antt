use Rattle.std.proofs.Common.{◌≡◌, ◌++◌, drop, map}
use Rattle.std.specs.List.{flat_map}
use Rattle.pd_chart.specs.Elements.{element_text}
use Rattle.pd_plot.specs.Lines.{mark_of}
use Rattle.pd_plot.proofs.line.push_marks.Given as goal

abbrev pub invariant-loop-point : goal.invariant-loop-point
invariant-loop-point l =
    l.text.items ++ flat_map element_text (map (mark_of l.top l.unit) (drop l.point-index l.points))
    ≡ l.fn.text.items ++ flat_map element_text (map (mark_of l.top l.unit) l.points)
