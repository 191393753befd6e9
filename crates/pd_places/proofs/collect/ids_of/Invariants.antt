use Rattle.std.proofs.Common.{◌≡◌, take}
use Rattle.pd_scenario_tables.specs.Seen.{views}
use Rattle.pd_places.specs.Same.{ids_of}
use Rattle.pd_places.proofs.collect.ids_of.Given as goal

abbrev pub invariant-loop-table : goal.invariant-loop-table
invariant-loop-table l = l.ids.items ≡ ids_of (views (take l.table-index l.tables))
