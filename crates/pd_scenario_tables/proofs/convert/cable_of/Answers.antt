use Rattle.toml.specs.View.{table_view}
use Rattle.pd_scenario_tables.proofs.Parts.{cable_named}
use Rattle.pd_scenario_tables.proofs.convert.cable_of.Goals as goal

pub new-requires : goal.new-requires
new-requires c = rw c.word_at-name.ensures (cable_named c.requires.version c.requires.ports (table_view c.args.table.now) c.requires.sound)
