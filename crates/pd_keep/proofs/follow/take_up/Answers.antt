use Rattle.std.proofs.Common.{◌≡◌, ◌+◌, ◌-◌, sym, ◌∙◌, ap, subst, arith}
use Rattle.pd_run.specs.Live.{LiveData, StandsBut, taken_up}
use Rattle.pd_run.proofs.Follow.{StandsBut-none}
use Rattle.pd_keep.proofs.Following.{up_more, up_same, none_below, marks_from}
use Rattle.pd_keep.proofs.follow.take_up.Goals.{then-away-port+in_ok-last_port, else-away-port}
use Rattle.pd_keep.proofs.follow.take_up.Goals as goal

pub loop-port-preserved : goal.loop-port-preserved
loop-port-preserved g c = λ past whole s left.
    let i = c.loop-port.port in
    let live : LiveData = c.loop-port.live in
    let plan = c.args.plan.now in
    let b = c.loop-port.invariant past whole s left in
    let few = c.requires.few in
    let inside = c.loop-port-test.true in
    let count = c.end-end.ensures.is_plan.settings_count in
    let same : i + 1 - 1 ≡ i = omega arith in
    elim c.if-away-port.branch [
      | then-away-port+in_ok-last_port w ↦
          subst (λ (l : LiveData). StandsBut plan past (marks_from (i + 1) c.args.away.now) whole l)
          (sym (w.live-is ∙ w.take_up.ensures ∙ ap (λ k. taken_up plan live k w.in_ok-last_port.field-0) same))
          (up_more plan past c.args.away.now whole live i w.in_ok-last_port.field-0 (omega (arith, count, inside))
          (omega (arith, few, inside, c.told-away)) b (w.in_ok-last_port.ensures ∙ left i inside w.if-away-port.true))
      | else-away-port w ↦
          subst (λ (l : LiveData). StandsBut plan past (marks_from (i + 1) c.args.away.now) whole l) (sym w.live-is)
          (up_same plan past c.args.away.now whole live i b w.if-away-port.false)
    ]

pub returns : goal.returns
returns g c = λ past whole s left.
    let lower = c.loop-port-test.false in
    let count = c.end-end.ensures.is_plan.settings_count in
    StandsBut-none c.args.plan.now past _ whole c.loop-port.live (c.loop-port.invariant past whole s left)
    (λ p lt. none_below c.args.away.now c.loop-port.port p (omega (arith, count, lower)))
