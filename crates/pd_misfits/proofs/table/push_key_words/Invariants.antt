use Rattle.std.proofs.Common.{◌≡◌, ◌++◌, take}
use Rattle.std.specs.List.{flat_map}
use Rattle.pd_misfits.specs.Lines.{key_word}
use Rattle.pd_misfits.proofs.table.push_key_words.Given as goal

abbrev pub invariant-loop-rule : goal.invariant-loop-rule
invariant-loop-rule l = l.text.items ≡ l.initial.text.items ++ flat_map key_word (take l.rule-index l.rules)
