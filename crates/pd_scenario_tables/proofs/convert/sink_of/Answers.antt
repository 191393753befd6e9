use Rattle.toml.specs.View.{table_view}
use Rattle.pd_scenario_tables.proofs.Parts.{sink_named, sink_numbers, is_sink}
use Rattle.pd_scenario_tables.proofs.convert.sink_of.Goals as goal

pub new-requires : goal.new-requires
new-requires c = rw c.word_at-name.ensures (sink_named c.requires.version c.requires.ports (table_view c.args.table.now) c.requires.sound)

pub new-requires-2 : goal.new-requires-2
new-requires-2 c =
    let numbers = sink_numbers c.requires.version c.requires.ports (table_view c.args.table.now) c.requires.sound in
    is_sink _ (rw c.number_at-max_mv.ensures numbers.0) (rw c.number_at-demand_mw.ensures numbers.1)
