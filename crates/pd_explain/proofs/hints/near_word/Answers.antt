use Rattle.pd_explain.proofs.NearWords.{later_word, this_word, no_word}
use Rattle.pd_explain.proofs.hints.near_word.Goals as goal

pub returns-in-Some : goal.returns-in-Some
returns-in-Some c =
    this_word c.args.word.now c.args.rows.now c.loop-row.row-index _ _ c.loop-row-test.true c.in-Some.ensures c.loop-row.invariant

pub loop-row-preserved : goal.loop-row-preserved
loop-row-preserved c =
    later_word c.args.word.now c.args.rows.now c.loop-row.row-index _ c.loop-row-test.true c.in_default.ensures c.loop-row.invariant

pub returns : goal.returns
returns c = no_word c.args.word.now c.args.rows.now c.loop-row.row-index c.loop-row-test.false c.loop-row.invariant
