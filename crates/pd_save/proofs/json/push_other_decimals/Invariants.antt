use Rattle.std.proofs.Common.{◌≡◌, ◌++◌, take}
use Rattle.std.specs.List.{flat_map}
use Rattle.pd_save.specs.Json.{next_decimal}
use Rattle.pd_save.proofs.json.push_other_decimals.Given as goal

abbrev pub invariant-loop-number : goal.invariant-loop-number
invariant-loop-number l = l.text.items ≡ l.initial.text.items ++ flat_map next_decimal (take l.number-index l.numbers)
