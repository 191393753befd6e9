use Rattle.std.proofs.Common.{◌≡◌, ◌+◌, drop}
use Rattle.pd_scenario_tables.specs.Seen.{views}
use Rattle.pd_scenario_text.specs.Names.{texts}
use Rattle.pd_places.specs.FirstLines.{added}
use Rattle.pd_places.specs.Known.{event_known_part}
use Rattle.pd_places.specs.Numbered.{numbered}
use Rattle.pd_places.proofs.known.push_events_known.Given as goal

abbrev pub invariant-loop-table : goal.invariant-loop-table
invariant-loop-table l = record {
  text :
      added l.initial.told (numbered (event_known_part l.spot l.version (texts l.names.0.now) (texts l.names.1.now)) 1 (views l.tables))
      ≡ added l.told
      (numbered (event_known_part l.spot l.version (texts l.names.0.now) (texts l.names.1.now)) l.number
      (views (drop l.table-index l.tables)));
  count : l.number ≡ l.table-index + 1;
}
