use Rattle.std.proofs.Common.{arith, subst}
use Rattle.pd_keep.specs.declared.rank.Rank.{Rank}
use Rattle.pd_keep.specs.Ranks.{IsBefore}
use Rattle.pd_keep.proofs.Ranks.{all_passed, one_passed, none_stands}
use Rattle.pd_keep.proofs.one_span.seek.Goals as goal

pub loop-at-init : goal.loop-at-init
loop-at-init c = record {
  within = c.resumed-at.ensures.within;
  passed = all_passed c.args.old.now.moves c.resumed-at.result c.args.rank.now (c.is_ranked.ensures c.if-not-is_ranked.false)
      c.resumed-at.ensures.within c.resumed-at.ensures.passed;
}

pub loop-at-preserved : goal.loop-at-preserved
loop-at-preserved c = record {
  within = (let len = c.len.ensures in omega (arith, len, c.loop-at-test.true));
  passed = one_passed c.args.old.now.moves c.loop-at.at c.args.rank.now c.loop-at.invariant.passed
      (λ k. subst (λ (r : Rank). IsBefore r c.args.rank.now) (c.rank.ensures k) (c.is_before.ensures.0 c.if-is_before.true));
}

pub returns-else-is_before : goal.returns-else-is_before
returns-else-is_before c = none_stands c.args.old.now.moves c.loop-at.at c.args.rank.now c.loop-at.invariant.passed

pub returns-after-loop-at : goal.returns-after-loop-at
returns-after-loop-at c = none_stands c.args.old.now.moves c.loop-at.at c.args.rank.now c.loop-at.invariant.passed
