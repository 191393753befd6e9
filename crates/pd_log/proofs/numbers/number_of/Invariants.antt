use Rattle.std.proofs.Common.{◌≡◌, ◌+◌, ◌*◌, ◌^◌, ◌<◌, take, fold, true}
use Rattle.std.specs.List.{list_all}
use Rattle.std.specs.Char.{is_ascii_hexdigit}
use Rattle.pd_log.specs.Words.{value_of}
use Rattle.pd_log.proofs.numbers.number_of.Given as goal

abbrev pub invariant-loop-digit : goal.invariant-loop-digit
invariant-loop-digit l =
    (l.number ≡ fold (λ n c. 16 * n + value_of c) 0 (take l.digit-index l.digits)) × (l.number < 16 ^ l.digit-index)
    × (list_all is_ascii_hexdigit (take l.digit-index l.digits) ≡ true)
