use Rattle.std.proofs.Common.{◌≤◌, arith}
use Rattle.toml.specs.View.{table_view}
use Rattle.pd_scenario_tables.proofs.Parts.{few_tries, port_fits}
use Rattle.pd_scenario_tables.proofs.convert.settings_of.Goals as goal

pub overflow_cast-tries : goal.overflow_cast-tries
overflow_cast-tries c =
    let few : c.tries_at-tries.result ≤ 20 = rw c.tries_at-tries.ensures
    (few_tries c.requires.version c.requires.ports (table_view c.args.table.now) c.requires.sound) in omega arith

pub new-requires : goal.new-requires
new-requires c =
    rw (c.supplies_of-supplies.ensures, c.number_at-floor_mw.ensures, c.tries_at-tries.ensures, c.truth_at-unconstrained.ensures)
    (port_fits c.requires.version c.requires.ports (table_view c.args.table.now) c.requires.sound)
