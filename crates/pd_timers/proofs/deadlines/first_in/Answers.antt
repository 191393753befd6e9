use Rattle.std.proofs.Common.{◌≡◌, ◌<◌, ℕ, Option, None, length, arith, take, ap, ◌∙◌}
use Rattle.std.proofs.lemmas.List.{get_or-map}
use Rattle.std.proofs.lemmas.List.Sums.{fold_more}
use Rattle.pd_timers.specs.declared.Timer.{Timer}
use Rattle.pd_timers.specs.declared.Timer.TheVariants.{Delay}
use Rattle.pd_timers.specs.Deadlines.{first_of, best_of, deadline, keep, timers}
use Rattle.pd_timers.specs.Slots.{time_of, times_of}
use Rattle.pd_timers.proofs.deadlines.first_in.Goals as goal

pub loop-timer-preserved : goal.loop-timer-preserved
loop-timer-preserved c =
    let d = times_of c.args.at.now in
    let lt : c.loop-timer.timer-index < 14 = omega arith in
    let e = fold_more (λ (best : Option (ℕ × Timer)) (t : Timer). keep best (deadline d t) t) None timers c.loop-timer.timer-index Delay
    lt in
    let h = c.sooner-first.ensures.value in
    let p = c.place_of.ensures.value in
    let i = c.loop-timer.invariant.0 in
    let in_range : c.place_of.result < length c.args.at.now = omega arith in
    let slot = get_or-map time_of c.args.at.now c.place_of.result 0 None in_range in
    (cc (h, e, p, i, slot), c.sooner-first.ensures.plain c.loop-timer.invariant.1)

pub returns-clause-value : goal.returns-clause-value
unfolding first_of
returns-clause-value c =
    let n : c.loop-timer.timer-index ≡ 14 = omega arith in
    c.loop-timer.invariant.0 ∙ ap (λ k. best_of (take k timers) (times_of c.args.at.now)) n

pub returns-clause-plain : goal.returns-clause-plain
returns-clause-plain c = c.loop-timer.invariant.1
