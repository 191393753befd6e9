use Rattle.std.proofs.Common.{◌≡◌, map, true, get_or, lit<}
use Rattle.std.specs.List.{list_all}
use Rattle.toml.specs.View.{view, table_view}
use Rattle.pd_scenario_tables.specs.Values.{is_supply}
use Rattle.pd_scenario_tables.proofs.Members.{all_at, room}
use Rattle.pd_scenario_tables.proofs.Parts.{is_one_supply, few_supplies, port_supplies}
use Rattle.pd_scenario_tables.proofs.convert.supplies_of.Goals as goal

pub supply_of-requires : goal.supply_of-requires
supply_of-requires c =
    let all : list_all is_supply (map view c.elements_at-items.result.now) ≡ true = rw c.elements_at-items.ensures
    (port_supplies c.requires.version c.requires.ports (table_view c.args.table.now) c.requires.sound).0 in
    rw c.item-item.is (is_one_supply (view (get_or c.elements_at-items.result.now c.loop-item.item-index c.item-item.result))
    (all_at is_supply view c.elements_at-items.result.now c.loop-item.item-index c.item-item.result c.loop-item-test.true all))

pub push-requires : goal.push-requires
push-requires c =
    let few = few_supplies _ (port_supplies c.requires.version c.requires.ports (table_view c.args.table.now) c.requires.sound).1 in (
      lit< tt,
      rw c.loop-item.invariant
          (room c.elements_at-items.result.now _ c.loop-item.item-index c.elements_at-items.ensures few c.loop-item-test.true),
    )
