use Rattle.std.proofs.Common.{◌≡◌, ◌++◌, false, map, take}
use Rattle.clap.specs.Words.{shape_of}
use Rattle.clap.specs.declared.builder.command.Command.TheViews.{out-Command as fields_of}
use Rattle.pd_words.specs.Help.{choice_rule, word_rule}
use Rattle.pd_words.specs.Lab as spec
use Rattle.pd_words.proofs.lab.command.Given as goal

abbrev pub invariant-loop-choice : goal.invariant-loop-choice
invariant-loop-choice l = (shape_of l.command ≡ spec.command l.page.name.now
    (map word_rule l.page.words.now ++ map choice_rule (take l.choice-index l.page.options.now)))
    × ((fields_of l.command).has_globals ≡ false)
