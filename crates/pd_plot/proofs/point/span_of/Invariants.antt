use Rattle.std.proofs.Common.{◌≡◌, take}
use Rattle.pd_plot.specs.Points.{span_of}
use Rattle.pd_plot.proofs.point.span_of.Given as goal

abbrev pub invariant-loop-point : goal.invariant-loop-point
invariant-loop-point l = l.span ≡ span_of (take l.point-index l.points)
