use Rattle.std.proofs.Common.{◌≡◌, ◌+◌, ◌-◌, ◌*◌, ◌^◌, ◌<◌, take, fold, true}
use Rattle.std.specs.List.{list_all}
use Rattle.std.specs.Char.{is_ascii_digit}
use Rattle.pd_log.proofs.supplies.number_of.Given as goal

abbrev pub invariant-loop-digit : goal.invariant-loop-digit
invariant-loop-digit l =
    (l.number ≡ fold (λ n c. 10 * n + (c - 48)) 0 (take l.digit-index l.digits)) × (l.number < 10 ^ l.digit-index)
    × (list_all is_ascii_digit (take l.digit-index l.digits) ≡ true)
