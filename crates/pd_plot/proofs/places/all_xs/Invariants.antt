use Rattle.std.proofs.Common.{◌≡◌, map, take}
use Rattle.pd_plot.specs.Lines.{x_at}
use Rattle.pd_plot.proofs.places.all_xs.Given as goal

abbrev pub invariant-loop-number : goal.invariant-loop-number
invariant-loop-number l = l.xs.items ≡ map (x_at l.span) (take l.number-index l.numbers)
