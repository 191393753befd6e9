use Rattle.std.proofs.Common.{◌≡◌, fold, take, None}
use Rattle.pd_plot.specs.Points.{widened}
use Rattle.pd_plot.proofs.places.whole_span.Given as goal

abbrev pub invariant-loop-number : goal.invariant-loop-number
invariant-loop-number l = l.span ≡ fold widened None (take l.number-index l.numbers)
