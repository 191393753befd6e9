use Rattle.std.proofs.Common.{◌≡◌, ◌++◌, drop, false}
use Rattle.pd_plot.specs.Lines.{curve_from}
use Rattle.pd_plot.proofs.line.push_path_over.Given as goal

abbrev pub invariant-loop-point : goal.invariant-loop-point
invariant-loop-point l =
    l.text.items ++ curve_from l.top l.joined (drop l.point-index l.points) ≡ l.fn.text.items ++ curve_from l.top false l.points
