use Rattle.std.proofs.Common.{refl, subst, All}
use Rattle.std.proofs.lemmas.List.{take_all}
use Rattle.std.proofs.lemmas.List.Elements.{All-more}
use Rattle.pd_run.proofs.Agree.{IsSameAt, no_change}
use Rattle.pd_run.proofs.beside.same_at.Goals as goal

pub loop-change-preserved : goal.loop-change-preserved
loop-change-preserved g c =
    All-more (IsSameAt c.args.old.now c.args.plan.now c.args.from c.args.to) c.args.changes.now c.loop-change.change-index no_change
    c.loop-change-test.true c.loop-change.invariant (c.is_same_at.ensures.0 c.if-not-is_same_at.false)

pub returns : goal.returns
returns g c =
    let all = take_all c.loop-change.change-index c.args.changes.now c.loop-change-test.false in (
      λ t. subst (All (IsSameAt c.args.old.now c.args.plan.now c.args.from c.args.to)) all c.loop-change.invariant,
      λ same. refl,
    )
