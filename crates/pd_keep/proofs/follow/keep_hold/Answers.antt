use Rattle.std.proofs.Common.{◌<◌, ◌≤◌, ⊎_elim, ◌≡◌, true, arith, subst, slice_index_or}
use Rattle.std.proofs.lemmas.Bool.{cases_lt, not-false, not-true}
use Rattle.pd_keep.specs.Kept.{KeepsHold}
use Rattle.pd_keep.proofs.Following.{some_kept}
use Rattle.pd_keep.proofs.follow.keep_hold.Goals as goal

pub loop-i-preserved : goal.loop-i-preserved
loop-i-preserved c = λ i k ge lt.
    ⊎_elim
    (λ (earlier : i < c.loop-i.i). c.loop-i.invariant i k ge earlier)
    (λ (last : c.loop-i.i ≤ i).
    let keeps : c.brief.result.keeps_hold ≡ true = not-false _ c.if-not-brief.false in
    let same : c.loop-i.i ≡ i = omega arith in
    subst (λ j. KeepsHold (slice_index_or c.args.old.now.moves j k)) same ((c.brief.ensures k).keeps.0 keeps))
    (cases_lt i c.loop-i.i)

pub returns-then-not-brief : goal.returns-then-not-brief
returns-then-not-brief c = (
  λ told. absurd cc,
  λ keep. absurd
      (let keeps = (c.brief.ensures some_kept).keeps.1 (keep c.loop-i.i some_kept (omega arith) (omega arith)) in
      let isnt = not-true _ c.if-not-brief.true in cc),
)
