use Rattle.std.proofs.Common.{◌≡◌, ◌-◌, ap, sym, ◌∙◌, subst, arith, option_map, true}
use Rattle.pd_ledger.specs.Account.{Account}
use Rattle.pd_ledger.specs.Offer.{answer_of}
use Rattle.pd_run.specs.Held.{HoldsOn}
use Rattle.pd_run.specs.Live.{LiveData}
use Rattle.pd_run.proofs.Held.{is_given, gives_it, left_fits}
use Rattle.pd_run.proofs.live.Live.follow.Goals as goal

pub set_hold-requires : goal.set_hold-requires
set_hold-requires g c =
    let plan = c.args.plan.now in
    let past = c.requires.holds.0 in
    let m = c.requires.holds.1 in
    let old : Account = c.self.inside.ledger in
    let h : HoldsOn plan past old m c.args.port c.args.entry.now c.args.answer.now c.args.left =
    subst (λ (l : LiveData). HoldsOn plan past l.account m c.args.port c.args.entry.now c.args.answer.now c.args.left)
    (sym c.self.view_is) c.requires.holds.2 in
    let given = c.gives-given.ensures.0 c.if-given.true
    ∙ ap (λ (a : Account). option_map (answer_of a (c.args.port - 1)) c.args.entry.now.query) c.set_budget.ensures in
    let answered = is_given plan past old m c.args.port c.args.entry.now c.args.answer.now c.args.left c.force-budget.result h
    c.force-budget.ensures.force given in
    let fits = left_fits plan past old m c.args.port c.args.entry.now c.args.answer.now c.args.left c.force-budget.result h
    c.force-budget.ensures.force answered in
    let known = h.goes.known in
    let port = h.port_is in
    let count = c.force-budget.ensures.is_plan.settings_count in
    rw c.set_budget.ensures (omega arith, (omega (arith, port), (omega (arith, port, known, count), fits)))

pub returns-then-given-clause-answered : goal.returns-then-given-clause-answered
returns-then-given-clause-answered g c = λ past m told.
    let plan = c.args.plan.now in
    let old : Account = c.self.inside.ledger in
    let h : HoldsOn plan past old m c.args.port c.args.entry.now c.args.answer.now c.args.left =
    subst (λ (l : LiveData). HoldsOn plan past l.account m c.args.port c.args.entry.now c.args.answer.now c.args.left)
    (sym c.self.view_is) told in
    let given = c.gives-given.ensures.0 c.if-given.true
    ∙ ap (λ (a : Account). option_map (answer_of a (c.args.port - 1)) c.args.entry.now.query) c.set_budget.ensures in (
      λ _. is_given plan past old m c.args.port c.args.entry.now c.args.answer.now c.args.left c.force-budget.result h
          c.force-budget.ensures.force given,
      λ _. c.if-given.true,
    )

pub returns-else-given-clause-answered : goal.returns-else-given-clause-answered
returns-else-given-clause-answered g c = λ past m told.
    let plan = c.args.plan.now in
    let old : Account = c.self.inside.ledger in
    let h : HoldsOn plan past old m c.args.port c.args.entry.now c.args.answer.now c.args.left =
    subst (λ (l : LiveData). HoldsOn plan past l.account m c.args.port c.args.entry.now c.args.answer.now c.args.left)
    (sym c.self.view_is) told in (
      λ is. absurd (let t : c.gives-given.result ≡ true = is in let f = c.if-given.false in cc),
      λ answered. c.gives-given.ensures.1
          (gives_it plan past old m c.args.port c.args.entry.now c.args.answer.now c.args.left c.force-budget.result h
          c.force-budget.ensures.force answered
          ∙ ap (λ (a : Account). option_map (answer_of a (c.args.port - 1)) c.args.entry.now.query) (sym c.set_budget.ensures)),
    )
