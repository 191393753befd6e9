use Rattle.std.proofs.Common.{◌≡◌, ◌++◌, take}
use Rattle.std.specs.List.{flat_map}
use Rattle.pd_save.specs.EditWords.{supply_words}
use Rattle.pd_save.proofs.edit_words.push_supplies.Given as goal

abbrev pub invariant-loop-supply : goal.invariant-loop-supply
invariant-loop-supply l = l.text.items ≡ l.initial.text.items ++ flat_map supply_words (take l.supply-index l.supplies)
