use Rattle.std.proofs.Common.{◌≡◌, ◌-◌, ◌<◌, ◌++◌}
use Rattle.pd_misfits.specs.Fractions.{digits_behind}
use Rattle.pd_misfits.proofs.fractions.push_digits.Given as goal

abbrev pub invariant-loop : goal.invariant-loop
invariant-loop l = record {
  digits : l.text.items ++ digits_behind (6 - l.counter) l.rest ≡ l.initial.text.items ++ digits_behind 6 l.millionths;
  few : l.rest < 1000000;
}
