use Rattle.std.proofs.Common.{◌≡◌, ◌+◌, ◌++◌, drop}
use Rattle.pd_scenario_tables.specs.Seen.{views}
use Rattle.pd_misfits.specs.Lines.{events_text}
use Rattle.pd_misfits.proofs.file.push_events.Given as goal

abbrev pub invariant-loop-table : goal.invariant-loop-table
invariant-loop-table l = record {
  text :
      l.initial.text.items ++ events_text l.spot l.refused.fault l.refused.version l.refused.ports 1 (views l.tables)
      ≡ l.text.items
      ++ events_text l.spot l.refused.fault l.refused.version l.refused.ports l.number (views (drop l.table-index l.tables));
  count : l.number ≡ l.table-index + 1;
}
