use Rattle.std.proofs.Common.{◌≡◌, map, take}
use Rattle.toml.specs.View.{view}
use Rattle.pd_scenario_tables.specs.Values.{supply_of}
use Rattle.pd_scenario_tables.proofs.convert.supplies_of.Given as goal

abbrev pub invariant-loop-item : goal.invariant-loop-item
invariant-loop-item l = l.supplies.items ≡ map supply_of (map view (take l.item-index l.items))
