use Rattle.std.proofs.Common.{◌≡◌, ◌++◌, map, string_bytes}
use Rattle.std.specs.List.{flat_map}
use Rattle.toml.specs.View.{table_view}
use Rattle.pd_scenario_tables.specs.Tables.{keys_of}
use Rattle.pd_misfits.specs.Lines.{key_part}
use Rattle.pd_misfits.proofs.table.push_keys.Given as goal

abbrev pub invariant-loop-key : goal.invariant-loop-key
invariant-loop-key l =
    l.initial.text.items ++ flat_map (key_part l.spot l.version l.kind) (keys_of (table_view l.table))
    ≡ l.text.items ++ flat_map (key_part l.spot l.version l.kind) (map string_bytes l.key-iterator)
