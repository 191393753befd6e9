use Rattle.std.proofs.Common.{ℕ, Option, subst, sym}
use Rattle.pd_timers.specs.declared.Timer.{Timer}
use Rattle.pd_timers.specs.Deadlines.{IsFirst}
use Rattle.pd_timers.proofs.FirstLemmas.{first_of-IsFirst}
use Rattle.pd_timers.proofs.SinkLemmas.{first_of-five}
use Rattle.pd_timers.proofs.sink_deadlines.SinkDeadlines.first.Goals as goal

pub returns-clause-value : goal.returns-clause-value
returns-clause-value c =
    let v = c.self.view_is in
    let e1 = c.sooner-first.ensures.value in
    let e2 = c.sooner-first-2.ensures.value in
    let e3 = c.sooner-first-3.ensures.value in
    let e4 = c.sooner-first-4.ensures.value in
    let e5 = c.sooner-first-5.ensures.value in
    let t = c.told.ensures in
    let s = c.self.inside in
    let f = first_of-five s.delay s.sender_response s.sink_wait_cap s.ps_transition s.sink_request in
    cc

pub returns-clause-least : goal.returns-clause-least
returns-clause-least c =
    let P : Option (ℕ × Timer) → Type 0 = λ r. IsFirst c.args.self.now r in
    subst P (sym (returns-clause-value c)) (first_of-IsFirst c.args.self.now)
