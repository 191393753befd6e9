use Rattle.std.proofs.Common.{◌≡◌, take}
use Rattle.pd_scenario_tables.specs.Seen.{views}
use Rattle.pd_scenario_text.specs.Names.{texts}
use Rattle.pd_places.specs.Same.{names_of}
use Rattle.pd_places.proofs.collect.names_of.Given as goal

abbrev pub invariant-loop-table : goal.invariant-loop-table
invariant-loop-table l = texts l.names.items ≡ names_of (views (take l.table-index l.tables))
