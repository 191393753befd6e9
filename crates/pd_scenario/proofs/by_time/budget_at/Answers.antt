use Rattle.std.proofs.Common.{◌-◌, get_or, sym, ◌∙◌, arith}
use Rattle.pd_scenario.proofs.Places.{force-first, force-last, later-first, last-behind}
use Rattle.pd_scenario.proofs.by_time.budget_at.Goals as goal

pub returns-then-place-eq0 : goal.returns-then-place-eq0
returns-then-place-eq0 c plan at is stands first =
    let none = c.if-place-eq0.true in
    first none ∙ sym (force-first plan at (later-first plan.forces c.args.order.now c.args.place at is stands none))

pub returns : goal.returns
returns c plan at is stands first =
    let last = last-behind plan.forces c.args.order.now c.args.place at is stands (record { id = 0; at = 0; budget = 0 })
    (omega (arith, c.if-place-eq0.false)) in
    sym (force-last plan at c.args.order.now (get_or c.args.order.now (c.args.place - 1) (record { id = 0; at = 0; budget = 0 })) is last)
