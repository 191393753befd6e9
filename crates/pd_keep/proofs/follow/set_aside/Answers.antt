use Rattle.std.proofs.Common.{◌≡◌, ◌+◌, ◌-◌, None, take, sym, ◌∙◌, ap, subst, arith, slice_set}
use Rattle.std.proofs.lemmas.List.{get_or-take}
use Rattle.pd_run.specs.Live.{LiveData, StandsBut}
use Rattle.pd_keep.proofs.Following.{aside_more, aside_same, aside_none, but_marks}
use Rattle.pd_keep.proofs.follow.set_aside.Goals.{then-away-port, else-away-port}
use Rattle.pd_keep.proofs.follow.set_aside.Goals as goal

pub loop-port-init : goal.loop-port-init
loop-port-init g c = λ plan past counts s. aside_none plan past c.args.away.now c.args.live.now s

pub loop-port-preserved : goal.loop-port-preserved
loop-port-preserved g c = λ plan past counts s.
    let i = c.loop-port.port in
    let live : LiveData = c.loop-port.live in
    let b = c.loop-port.invariant plan past counts s in
    let few = c.requires.few in
    let inside = c.loop-port-test.true in
    let same : i + 1 - 1 ≡ i = omega arith in
    elim c.if-away-port.branch [
      | then-away-port w ↦
          subst (λ (l : LiveData). StandsBut plan past (take (i + 1) c.args.away.now) c.args.live.now l)
          (sym (w.live-is ∙ w.set_aside.ensures ∙ ap (λ k. record live { dues = slice_set live.dues k None }) same))
          (aside_more plan past c.args.away.now c.args.live.now live i (omega (arith, counts, inside))
          (omega (arith, few, inside, c.told-away)) b w.if-away-port.true)
      | else-away-port w ↦
          subst (λ (l : LiveData). StandsBut plan past (take (i + 1) c.args.away.now) c.args.live.now l) (sym w.live-is)
          (aside_same plan past c.args.away.now c.args.live.now live i b w.if-away-port.false)
    ]

pub returns : goal.returns
returns g c = λ plan past counts s.
    let lower = c.loop-port-test.false in
    but_marks plan past _ c.args.away.now c.args.live.now c.loop-port.live (c.loop-port.invariant plan past counts s)
    (λ p lt. sym (get_or-take c.loop-port.port c.args.away.now p _ (omega (arith, counts, lower))))
