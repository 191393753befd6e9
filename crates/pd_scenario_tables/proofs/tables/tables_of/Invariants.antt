use Rattle.std.proofs.Common.{◌≡◌, take}
use Rattle.std.specs.List.{filter_map}
use Rattle.toml.specs.Data.{as_table}
use Rattle.toml.specs.View.{view}
use Rattle.pd_scenario_tables.specs.Seen.{views}
use Rattle.pd_scenario_tables.proofs.tables.tables_of.Given as goal

abbrev pub invariant-loop-item : goal.invariant-loop-item
invariant-loop-item l = views l.tables.items ≡ filter_map (λ v. as_table (view v)) (take l.item-index l.items)
