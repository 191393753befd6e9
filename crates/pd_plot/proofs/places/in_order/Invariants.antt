use Rattle.std.proofs.Common.{◌≡◌, drop, None}
use Rattle.pd_plot.specs.Places.{in_order}
use Rattle.pd_plot.proofs.places.in_order.Given as goal

abbrev pub invariant-loop-number : goal.invariant-loop-number
invariant-loop-number l = in_order l.up None l.numbers ≡ in_order l.up l.last (drop l.number-index l.numbers)
