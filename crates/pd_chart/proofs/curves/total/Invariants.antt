use Rattle.std.proofs.Common.{◌≡◌, ◌*◌, ◌≤◌, take}
use Rattle.std.specs.Prelude.{sum}
use Rattle.pd_chart.proofs.curves.total.Given as goal

abbrev pub invariant-loop-power : goal.invariant-loop-power
invariant-loop-power l = record {
  total_is : l.total ≡ sum (take l.power-index l.powers);
  small : l.total ≤ l.power-index * 18446744073709551616;
}
