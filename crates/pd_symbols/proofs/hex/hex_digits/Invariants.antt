use Rattle.std.proofs.Common.{◌≡◌, ◌-◌, ◌/◌, ◌^◌, drop, length}
use Rattle.pd_symbols.specs.Hex.{hex_digits}
use Rattle.pd_symbols.proofs.hex.hex_digits.Given as goal

abbrev pub invariant-loop-done : goal.invariant-loop-done
invariant-loop-done g l = record {
  long : length l.digits ≡ l.done-end;
  low : drop (l.done-end - l.done) l.digits ≡ hex_digits l.done l.number;
  left : l.rest ≡ l.number / 16 ^ l.done;
}
