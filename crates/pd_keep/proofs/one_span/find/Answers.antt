use Rattle.std.proofs.Common.{◌≡◌, arith, sym, subst}
use Rattle.pd_keep.specs.declared.rank.Rank.{Rank}
use Rattle.pd_keep.specs.Kept.{KeptData, kept_of, rank_kept}
use Rattle.pd_keep.specs.Ranks.{IsBefore}
use Rattle.pd_keep.proofs.Ranks.{none_there}
use Rattle.pd_keep.proofs.one_span.find.Goals as goal

pub returns-then-is_before-clause-none : goal.returns-then-is_before-clause-none
returns-then-is_before-clause-none c =
    let k : KeptData = kept_of c.args.port c.args.before.now c.args.due.now c.args.answer.now in
    let stands : IsBefore c.of-rank.result c.rank.result = c.is_before.ensures.0 c.if-is_before.true in
    none_there c.args.old.now.moves c.loop-i.i k (c.is_ranked-ranked.ensures c.if-ranked.true)
    (let len = c.len-i-end.ensures in omega (arith, c.loop-i-test.true))
    (subst (λ (r : Rank). IsBefore (rank_kept k) r) (c.rank.ensures k)
    (subst (λ (r : Rank). IsBefore r c.rank.result) c.of-rank.ensures stands))
    c.loop-i.invariant
