use Rattle.std.proofs.Common.{ap, arith, sym, ◌∙◌}
use Rattle.pd_sweep.specs.Lost.{is_ahead}
use Rattle.pd_sweep.proofs.LostLemmas.{all_ahead, ends_ahead, none_ahead, one_ahead}
use Rattle.pd_sweep.proofs.lose.count_ahead.Goals as goal

pub loop-count-init : goal.loop-count-init
loop-count-init c = record { within = omega arith; ahead = none_ahead c.args.at c.args.script.now }

pub loop-count-preserved : goal.loop-count-preserved
loop-count-preserved c =
    let below = c.loop-count-test.true in
    record {
      within = omega (arith, below);
      ahead =
          one_ahead c.args.at c.args.script.now c.loop-count.count c.index-script-count.result below
          (ap (is_ahead c.args.at) (sym c.index-script-count.is) ∙ sym c.is_ahead.ensures ∙ c.if-is_ahead.true)
          c.loop-count.invariant.ahead;
    }

pub returns-else-is_ahead-clause-value : goal.returns-else-is_ahead-clause-value
returns-else-is_ahead-clause-value c =
    ends_ahead c.args.at c.args.script.now c.loop-count.count c.index-script-count.result c.loop-count-test.true
    (ap (is_ahead c.args.at) (sym c.index-script-count.is) ∙ sym c.is_ahead.ensures ∙ c.if-is_ahead.false) c.loop-count.invariant.ahead

pub returns-after-loop-count-clause-value : goal.returns-after-loop-count-clause-value
returns-after-loop-count-clause-value c =
    all_ahead c.args.at c.args.script.now c.loop-count.count (omega (arith, c.loop-count-test.false)) c.loop-count.invariant.ahead
