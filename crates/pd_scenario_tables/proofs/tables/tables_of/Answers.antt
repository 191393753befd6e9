use Rattle.std.proofs.Common.{append-nil}
use Rattle.std.proofs.lemmas.List.{map-append}
use Rattle.toml.specs.Data.{as_table}
use Rattle.toml.specs.View.{view}
use Rattle.pd_scenario_tables.proofs.Members.{filter_map-more}
use Rattle.pd_scenario_tables.proofs.tables.tables_of.Goals as goal
use Rattle.pd_scenario_tables.proofs.tables.tables_of.Goals.{in-Some+in_ok-push, in_default}

pub loop-item-preserved : goal.loop-item-preserved
loop-item-preserved c =
    let more = filter_map-more (λ v. as_table (view v)) c.args.items.now c.loop-item.item-index c.item-item.result c.loop-item-test.true in
    elim c.match-as_table.branch [
      | in-Some+in_ok-push w ↦
          rw (w.tables-is, w.in_ok-push.ensures.items, map-append, c.loop-item.invariant, more, ← c.item-item.is, ← w.in-Some.ensures)
      | in_default w ↦ rw (w.tables-is, c.loop-item.invariant, more, ← c.item-item.is, ← w.in_default.ensures, append-nil)
    ]
