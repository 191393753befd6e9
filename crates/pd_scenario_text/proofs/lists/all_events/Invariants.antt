use Rattle.std.proofs.Common.{◌≡◌, map, take}
use Rattle.pd_scenario_tables.specs.Seen.{views}
use Rattle.pd_scenario_tables.specs.Convert.{event_of}
use Rattle.pd_scenario_text.proofs.lists.all_events.Given as goal

abbrev pub invariant-loop-table : goal.invariant-loop-table
invariant-loop-table l = l.all.items ≡ map (event_of l.version) (views (take l.table-index l.tables))
