use Rattle.std.proofs.Common.{◌≡◌, ◌++◌, take}
use Rattle.std.specs.List.{flat_map}
use Rattle.toml.specs.View.{table_view}
use Rattle.pd_misfits.specs.Lines.{rule_part}
use Rattle.pd_misfits.proofs.table.push_rules.Given as goal

abbrev pub invariant-loop-rule : goal.invariant-loop-rule
invariant-loop-rule l =
    l.text.items
    ≡ l.initial.text.items
    ++ flat_map (rule_part l.spot l.refused.fault l.refused.version l.refused.ports (table_view l.table)) (take l.rule-index l.rules)
