use Rattle.std.proofs.Common.{◌≡◌, false, map, take}
use Rattle.clap.specs.Words.{shape_of}
use Rattle.clap.specs.declared.builder.command.Command.TheViews.{out-Command as fields_of}
use Rattle.pd_words.specs.Help.{word_rule}
use Rattle.pd_words.specs.Lab as spec
use Rattle.pd_words.proofs.lab.with_words.Given as goal

abbrev pub invariant-loop-word : goal.invariant-loop-word
invariant-loop-word l = (shape_of l.command ≡ spec.command l.name (map word_rule (take l.word-index l.words)))
    × ((fields_of l.command).has_globals ≡ false)
