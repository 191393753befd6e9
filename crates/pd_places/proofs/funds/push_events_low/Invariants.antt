use Rattle.std.proofs.Common.{◌≡◌, ◌+◌, ◌++◌, drop}
use Rattle.pd_scenario_tables.specs.Seen.{views}
use Rattle.pd_places.specs.Funds.{event_low_part}
use Rattle.pd_places.specs.Numbered.{numbered}
use Rattle.pd_places.proofs.funds.push_events_low.Given as goal

abbrev pub invariant-loop-table : goal.invariant-loop-table
invariant-loop-table l = record {
  text :
      l.initial.text.items ++ numbered (event_low_part l.spot l.version l.floors) 1 (views l.tables)
      ≡ l.text.items ++ numbered (event_low_part l.spot l.version l.floors) l.number (views (drop l.table-index l.tables));
  count : l.number ≡ l.table-index + 1;
}
