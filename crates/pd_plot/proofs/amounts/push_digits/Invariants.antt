use Rattle.std.proofs.Common.{◌≡◌, ◌++◌, drop}
use Rattle.pd_chart.specs.Amounts.{digits}
use Rattle.pd_plot.proofs.amounts.push_digits.Given as goal

abbrev pub invariant-loop-place : goal.invariant-loop-place
invariant-loop-place l = l.text.items ++ digits l.number (drop l.place-index l.places) ≡ l.fn.text.items ++ digits l.number l.places
