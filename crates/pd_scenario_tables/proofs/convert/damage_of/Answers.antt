use Rattle.std.proofs.Common.{◌≤◌, arith}
use Rattle.toml.specs.View.{table_view}
use Rattle.pd_scenario_tables.proofs.Parts.{is_damage}
use Rattle.pd_scenario_tables.proofs.convert.damage_of.Goals as goal

pub overflow_cast-place : goal.overflow_cast-place
overflow_cast-place c =
    let few : c.number_at-place.result ≤ 68 = rw c.number_at-place.ensures
    (is_damage c.requires.version c.requires.ports (table_view c.args.table.now) c.requires.sound).most_place in omega arith

pub overflow_cast-mask : goal.overflow_cast-mask
overflow_cast-mask c =
    let few : c.number_at-mask.result ≤ 31 = rw c.number_at-mask.ensures
    (is_damage c.requires.version c.requires.ports (table_view c.args.table.now) c.requires.sound).most_mask in omega arith

pub new-requires : goal.new-requires
new-requires c =
    rw (c.number_at-place.ensures, c.number_at-mask.ensures)
    (is_damage c.requires.version c.requires.ports (table_view c.args.table.now) c.requires.sound)
