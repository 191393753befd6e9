use Rattle.std.proofs.Common.{◌≡◌, ◌+◌, ◌++◌, drop}
use Rattle.pd_scenario_tables.specs.Seen.{views}
use Rattle.pd_misfits.specs.Lines.{list_text}
use Rattle.pd_misfits.proofs.file.push_list.Given as goal

abbrev pub invariant-loop-table : goal.invariant-loop-table
invariant-loop-table l = record {
  text :
      l.initial.text.items
      ++ list_text l.spot l.word l.refused.fault l.refused.version l.refused.ports l.kind 1 (views l.tables)
      ≡ l.text.items
      ++ list_text l.spot l.word l.refused.fault l.refused.version l.refused.ports l.kind l.number
      (views (drop l.table-index l.tables));
  count : l.number ≡ l.table-index + 1;
}
