use Rattle.std.proofs.Common.{◌≡◌, All, sym, subst, ◌∙◌}
use Rattle.pd_scenario.specs.Plan.{force}
use Rattle.pd_run.proofs.Agree.{IsSameAt, same_between}
use Rattle.pd_run.proofs.beside.same_forces.Goals as goal

pub returns-then-same_at_old : goal.returns-then-same_at_old
returns-then-same_at_old g c =
    let a = c.args.old.now in
    let b = c.args.plan.now in
    let from = c.args.from in
    let to = c.args.to in
    let first : force a from ≡ force b from = sym c.force.ensures.force ∙ c.if-force.false ∙ c.force-2.ensures.force in
    let old = subst (All (IsSameAt a b from to)) c.forces.ensures.forces (c.same_at-same_at_old.ensures.0 c.if-same_at_old.true) in (
      λ is. same_between a b from to first old
          (subst (All (IsSameAt a b from to)) c.forces-2.ensures.forces (c.same_at-same_at_new.ensures.0 is)),
      λ same. c.same_at-same_at_new.ensures.1 (λ k d lt le below. same _ le below),
    )
