use Rattle.std.proofs.Common.{◌≡◌, ◌++◌, take}
use Rattle.std.specs.List.{flat_map}
use Rattle.std.specs.String.{string_bytes}
use Rattle.pd_words.specs.Help.{choice_line}
use Rattle.pd_words.proofs.help.push_options.Given as goal

abbrev pub invariant-loop-choice : goal.invariant-loop-choice
invariant-loop-choice l = string_bytes l.text
    ≡ string_bytes l.initial.text ++ flat_map (choice_line l.column) (take l.choice-index l.options)
