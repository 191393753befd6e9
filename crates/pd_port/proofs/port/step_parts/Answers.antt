use Rattle.std.proofs.Common.{ap, ◌∙◌}
use Rattle.pd_line.specs.declared.port_step.PortStep.{PortStep}
use Rattle.pd_line.specs.declared.port_parts.PortParts.{PortParts}
use Rattle.pd_port.specs.Port.{happens, portstep}
use Rattle.pd_port.proofs.Steps.{portstep_is}
use Rattle.pd_port.proofs.Polled.{polled_entry}
use Rattle.pd_port.proofs.port.step_parts.Goals as goal

pub returns-then-polls_again-clause-parts : goal.returns-then-polls_again-clause-parts
returns-then-polls_again-clause-parts c =
    let d = c.args.due.now in let given = c.args.answer.now in
    ap (λ (x : PortStep). x.port)
    (c.polls_again.ensures c.if-polls_again.true ∙ ap (λ (x : PortParts). portstep x d given) c.stand_as.ensures)

pub returns-then-polls_again-clause-entry : goal.returns-then-polls_again-clause-entry
returns-then-polls_again-clause-entry c =
    let d = c.args.due.now in let given = c.args.answer.now in
    polled_entry c.args.entry.now _ c.polls_again.new.parts c.new-entry.result c.new-entry.ensures
    (c.polls_again.ensures c.if-polls_again.true ∙ ap (λ (x : PortParts). portstep x d given) c.stand_as.ensures)

pub returns-clause-parts : goal.returns-clause-parts
returns-clause-parts c =
    let d = c.args.due.now in
    let is = portstep_is c.args.before.now d c.args.answer.now c.at_rest-step.result c.happens.new.step c.line_starts.new.self
    c.at_rest-step.ensures (c.happens.ensures ∙ ap (happens d.what d.time) c.give.ensures) c.line_starts.ensures.after in
    ap (λ (x : PortStep). x.port) is

pub returns-clause-entry : goal.returns-clause-entry
returns-clause-entry c =
    let d = c.args.due.now in
    let is = portstep_is c.args.before.now d c.args.answer.now c.at_rest-step.result c.happens.new.step c.line_starts.new.self
    c.at_rest-step.ensures (c.happens.ensures ∙ ap (happens d.what d.time) c.give.ensures) c.line_starts.ensures.after in
    ap (λ (x : PortStep). record c.args.entry.now { faults = x.faults; start = x.start }) is
