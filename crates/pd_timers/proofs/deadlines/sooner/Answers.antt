use Rattle.std.proofs.Common.{◌≤◌, arith, sym}
use Rattle.pd_timers.proofs.SlotLemmas.{keep-sooner, keep-later}
use Rattle.pd_timers.proofs.deadlines.sooner.Goals as goal

pub returns-then-time-first-clause-value : goal.returns-then-time-first-clause-value
returns-then-time-first-clause-value c =
    let fits : c.args.first.time ≤ 4294967295 = omega arith in
    sym (keep-sooner c.args.first.time c.args.time c.args.first.timer c.args.timer fits c.if-time-first.true)

pub returns-then-time-first-clause-plain : goal.returns-then-time-first-clause-plain
returns-then-time-first-clause-plain c = λ plain e.
    let fits : c.args.first.time ≤ 4294967295 = omega arith in
    let less = c.if-time-first.true in
    absurd (omega arith)

pub returns-else-time-first-clause-value : goal.returns-else-time-first-clause-value
returns-else-time-first-clause-value c =
    let fits : c.args.time ≤ 4294967295 = omega arith in
    sym (keep-later c.args.first.time c.args.time c.args.first.timer c.args.timer fits c.if-time-first.false)
