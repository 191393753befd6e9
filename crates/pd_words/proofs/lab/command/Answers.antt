use Rattle.std.proofs.Common.{◌∙◌, ◌||◌, ap₂, map}
use Rattle.pd_words.specs.Help.{choice_rule, word_rule}
use Rattle.pd_words.proofs.Tables.{more_rules}
use Rattle.pd_words.proofs.lab.command.Goals as goal

pub loop-choice-preserved : goal.loop-choice-preserved
loop-choice-preserved c = (
  more_rules _ (map word_rule c.args.page.now.words.now) choice_rule c.args.page.now.options.now c.loop-choice.choice-index _ _ _ _
      c.loop-choice-test.true
      (c.in_ok-command-2.ensures.shape c.argument.ensures.local) c.loop-choice.invariant.0 c.argument.ensures.rule,
  c.in_ok-command-2.ensures.globals ∙ ap₂ (λ x y. x || y) c.loop-choice.invariant.1 c.argument.ensures.local,
)
