use Rattle.std.proofs.Common.{◌∙◌, ◌||◌, [], ap₂}
use Rattle.pd_words.specs.Help.{word_rule}
use Rattle.pd_words.proofs.Tables.{more_rules}
use Rattle.pd_words.proofs.lab.with_words.Goals as goal

pub loop-word-preserved : goal.loop-word-preserved
loop-word-preserved c = (
  more_rules _ [] word_rule c.args.words.now c.loop-word.word-index _ _ _ _ c.loop-word-test.true
      (c.in_ok-command.ensures.shape c.word_argument.ensures.local) c.loop-word.invariant.0 c.word_argument.ensures.rule,
  c.in_ok-command.ensures.globals ∙ ap₂ (λ x y. x || y) c.loop-word.invariant.1 c.word_argument.ensures.local,
)
