use Rattle.std.proofs.Common.{◌≡◌, ◌+◌, ◌-◌, ◌*◌, ◌^◌, ◌<◌, take, fold, true}
use Rattle.std.specs.List.{list_all}
use Rattle.std.specs.Char.{is_ascii_digit}
use Rattle.pd_edit_lines.proofs.words.number.Given as goal

abbrev pub invariant-loop-byte : goal.invariant-loop-byte
invariant-loop-byte l =
    (l.value ≡ fold (λ n c. 10 * n + (c - 48)) 0 (take l.byte-index l.word)) × (l.value < 10 ^ l.byte-index)
    × (list_all is_ascii_digit (take l.byte-index l.word) ≡ true)
