use Rattle.toml.specs.View.{table_view}
use Rattle.pd_scenario_tables.proofs.Parts.{attach_named}
use Rattle.pd_scenario_tables.proofs.convert.attach_of.Goals as goal

pub new-requires : goal.new-requires
new-requires c =
    rw c.word_at-cable.ensures (attach_named c.requires.version c.requires.ports (table_view c.args.table.now) c.requires.sound).0

pub new-requires-2 : goal.new-requires-2
new-requires-2 c =
    rw c.word_at-sink.ensures (attach_named c.requires.version c.requires.ports (table_view c.args.table.now) c.requires.sound).1
