use Rattle.std.proofs.Common.{◌≡◌, map, take}
use Rattle.pd_scenario_tables.specs.Seen.{views}
use Rattle.pd_scenario_tables.specs.Convert.{sink_of}
use Rattle.pd_scenario_text.proofs.lists.all_sinks.Given as goal

abbrev pub invariant-loop-table : goal.invariant-loop-table
invariant-loop-table l = l.all.items ≡ map sink_of (views (take l.table-index l.tables))
