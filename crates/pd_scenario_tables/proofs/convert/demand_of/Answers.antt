use Rattle.toml.specs.View.{table_view}
use Rattle.pd_scenario_tables.proofs.Parts.{is_demand, demand_allowed}
use Rattle.pd_scenario_tables.proofs.convert.demand_of.Goals as goal

pub new-requires : goal.new-requires
new-requires c =
    rw c.number_at-mw.ensures
    (is_demand _ (demand_allowed c.requires.version c.requires.ports (table_view c.args.table.now) c.requires.sound))
