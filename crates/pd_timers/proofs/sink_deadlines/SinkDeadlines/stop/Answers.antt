use Rattle.pd_timers.proofs.SinkLemmas.{delay_stopped, response_stopped, wait_stopped, transition_stopped, request_stopped, another_stopped}
use Rattle.pd_timers.proofs.sink_deadlines.SinkDeadlines.stop.Goals as goal

pub returns-in-Delay : goal.returns-in-Delay
returns-in-Delay c =
    let v = c.self.view_is in
    let is = c.in-Delay.is in
    let s = c.self.inside in
    let l = delay_stopped s.delay s.sender_response s.sink_wait_cap s.ps_transition s.sink_request in
    cc

pub returns-in-SenderResponse : goal.returns-in-SenderResponse
returns-in-SenderResponse c =
    let v = c.self.view_is in
    let is = c.in-SenderResponse.is in
    let s = c.self.inside in
    let l = response_stopped s.delay s.sender_response s.sink_wait_cap s.ps_transition s.sink_request in
    cc

pub returns-in-SinkWaitCap : goal.returns-in-SinkWaitCap
returns-in-SinkWaitCap c =
    let v = c.self.view_is in
    let is = c.in-SinkWaitCap.is in
    let s = c.self.inside in
    let l = wait_stopped s.delay s.sender_response s.sink_wait_cap s.ps_transition s.sink_request in
    cc

pub returns-in-PsTransition : goal.returns-in-PsTransition
returns-in-PsTransition c =
    let v = c.self.view_is in
    let is = c.in-PsTransition.is in
    let s = c.self.inside in
    let l = transition_stopped s.delay s.sender_response s.sink_wait_cap s.ps_transition s.sink_request in
    cc

pub returns-in-SinkRequest : goal.returns-in-SinkRequest
returns-in-SinkRequest c =
    let v = c.self.view_is in
    let is = c.in-SinkRequest.is in
    let s = c.self.inside in
    let l = request_stopped s.delay s.sender_response s.sink_wait_cap s.ps_transition s.sink_request in
    cc

pub returns-in_default : goal.returns-in_default
returns-in_default c =
    let v = c.self.view_is in
    let n = c.in_default in
    let s = c.self.inside in
    let l = another_stopped s.delay s.sender_response s.sink_wait_cap s.ps_transition s.sink_request c.args.timer n.not-Delay
    n.not-SenderResponse n.not-SinkWaitCap n.not-PsTransition n.not-SinkRequest in
    cc
