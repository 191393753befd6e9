use Rattle.std.proofs.Common.{◌≡◌, ◌++◌, take}
use Rattle.std.specs.List.{flat_map}
use Rattle.pd_save.specs.Tables.{next_supply}
use Rattle.pd_save.proofs.tables.push_other_supplies.Given as goal

abbrev pub invariant-loop-supply : goal.invariant-loop-supply
invariant-loop-supply l = l.text.items ≡ l.initial.text.items ++ flat_map next_supply (take l.supply-index l.supplies)
