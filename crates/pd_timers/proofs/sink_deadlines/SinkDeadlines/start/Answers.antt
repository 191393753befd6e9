use Rattle.std.proofs.Common.{arith, ap, ◌∙◌, ◌+◌}
use Rattle.pd_timers.specs.Timers.{value_of}
use Rattle.pd_timers.proofs.SinkLemmas.{delay_started, response_started, wait_started, transition_started, request_started}
use Rattle.pd_timers.proofs.sink_deadlines.SinkDeadlines.start.Goals as goal

pub returns-in-Delay : goal.returns-in-Delay
returns-in-Delay c =
    let s = c.self.inside in
    let n = c.value.ensures.value ∙ ap value_of c.timer.ensures in
    delay_started c.args.self.now s.delay s.sender_response s.sink_wait_cap s.ps_transition s.sink_request c.args.now
    (c.args.now + c.value.result) c.args.timer c.self.view_is c.in-Delay.is (ap (λ k. c.args.now + k) n)
    (omega (arith, c.value.ensures.bounded))

pub returns-in-SenderResponse : goal.returns-in-SenderResponse
returns-in-SenderResponse c =
    let s = c.self.inside in
    let n = c.value.ensures.value ∙ ap value_of c.timer.ensures in
    response_started c.args.self.now s.delay s.sender_response s.sink_wait_cap s.ps_transition s.sink_request c.args.now
    (c.args.now + c.value.result) c.args.timer c.self.view_is c.in-SenderResponse.is (ap (λ k. c.args.now + k) n)
    (omega (arith, c.value.ensures.bounded))

pub returns-in-SinkWaitCap : goal.returns-in-SinkWaitCap
returns-in-SinkWaitCap c =
    let s = c.self.inside in
    let n = c.value.ensures.value ∙ ap value_of c.timer.ensures in
    wait_started c.args.self.now s.delay s.sender_response s.sink_wait_cap s.ps_transition s.sink_request c.args.now
    (c.args.now + c.value.result) c.args.timer c.self.view_is c.in-SinkWaitCap.is (ap (λ k. c.args.now + k) n)
    (omega (arith, c.value.ensures.bounded))

pub returns-in-PsTransition : goal.returns-in-PsTransition
returns-in-PsTransition c =
    let s = c.self.inside in
    let n = c.value.ensures.value ∙ ap value_of c.timer.ensures in
    transition_started c.args.self.now s.delay s.sender_response s.sink_wait_cap s.ps_transition s.sink_request c.args.now
    (c.args.now + c.value.result) c.args.timer c.self.view_is c.in-PsTransition.is (ap (λ k. c.args.now + k) n)
    (omega (arith, c.value.ensures.bounded))

pub returns-in-SinkRequest : goal.returns-in-SinkRequest
returns-in-SinkRequest c =
    let s = c.self.inside in
    let n = c.value.ensures.value ∙ ap value_of c.timer.ensures in
    request_started c.args.self.now s.delay s.sender_response s.sink_wait_cap s.ps_transition s.sink_request c.args.now
    (c.args.now + c.value.result) c.args.timer c.self.view_is c.in-SinkRequest.is (ap (λ k. c.args.now + k) n)
    (omega (arith, c.value.ensures.bounded))
