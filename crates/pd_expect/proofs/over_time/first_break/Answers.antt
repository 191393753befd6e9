use Rattle.std.proofs.Common.{◌≡◌, true, arith, ap, sym, subst, ◌∙◌}
use Rattle.pd_expect.specs.Details.{times_of}
use Rattle.pd_expect.specs.OverTime.{IsSoonest, Moves, contract_at, is_wanted}
use Rattle.pd_expect.specs.declared.near.Sign.TheVariants as sign
use Rattle.pd_expect.proofs.SteadyLemmas.{held_on, held_to}
use Rattle.pd_expect.proofs.over_time.first_break.Goals as goal

pub loop-at-preserved : goal.loop-at-preserved
loop-at-preserved g c =
    let moves : Moves = g.T.Runner.entries c.args.run.now in
    let so : is_wanted c.args.wanted (contract_at c.args.port c.loop-at.at moves) ≡ true =
    sym (ap (is_wanted c.args.wanted) c.contract_at-stands.ensures) ∙ sym c.is_so.ensures ∙ c.if-not-is_so.false in
    let soonest = subst (IsSoonest (times_of (sign.Change c.args.port) moves) c.loop-at.at) c.in-Some.is c.nearest.ensures.soonest in (
      omega (arith, c.loop-at.invariant.0, soonest.0),
      held_to c.args.port c.loop-at.at moves c.args.wanted c.args.from so c.loop-at.invariant.1 c.in-Some.next soonest,
    )

pub returns-in-None : goal.returns-in-None
returns-in-None g c =
    let moves : Moves = g.T.Runner.entries c.args.run.now in
    let so : is_wanted c.args.wanted (contract_at c.args.port c.loop-at.at moves) ≡ true =
    sym (ap (is_wanted c.args.wanted) c.contract_at-stands.ensures) ∙ sym c.is_so.ensures ∙ c.if-not-is_so.false in
    let none = subst (IsSoonest (times_of (sign.Change c.args.port) moves) c.loop-at.at) c.in-None.is c.nearest.ensures.soonest in
    λ t le before. held_on c.args.port c.loop-at.at moves c.args.wanted c.args.from so c.loop-at.invariant.1 none t le
