use Rattle.std.proofs.Common.{◌≡◌, take, map}
use Rattle.pd_edit.specs.Edits.{supply_of}
use Rattle.pd_edit.proofs.made.supplies_of.Given as goal

abbrev pub invariant-loop-supply : goal.invariant-loop-supply
invariant-loop-supply l = l.supplies.items ≡ map supply_of (take l.supply-index l.written.items)
