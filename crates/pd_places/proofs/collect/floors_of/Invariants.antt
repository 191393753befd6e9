use Rattle.std.proofs.Common.{◌≡◌, ◌≤◌, ◌*◌, ◌^◌, take}
use Rattle.pd_scenario_tables.specs.Seen.{views}
use Rattle.pd_places.specs.Funds.{floors_of}
use Rattle.pd_places.proofs.collect.floors_of.Given as goal

abbrev pub invariant-loop-table : goal.invariant-loop-table
invariant-loop-table l = record {
  value : l.sum ≡ floors_of (views (take l.table-index l.tables));
  bound : l.sum ≤ 2 ^ 32 * l.table-index;
}
