use Rattle.std.proofs.Common.{ap, sym, subst, ◌∙◌}
use Rattle.pd_line.specs.declared.port_parts.PortParts.{PortParts}
use Rattle.pd_line.specs.declared.port_step.PortStep.{PortStep}
use Rattle.pd_setup.specs.Settings.{SettingsData, IsSettings}
use Rattle.pd_port.specs.declared.entry.Entry.{Entry}
use Rattle.pd_port.specs.Port.{portstep}
use Rattle.pd_port.proofs.Steps.{after_is, settings_stay, led_whole, entry_is, change_is}
use Rattle.pd_port.proofs.port.Port.step_into.Goals as goal

pub invariant_of-self : goal.invariant_of-self
invariant_of-self c =
    let port = c.before-2.inside in
    subst (λ (s : SettingsData). IsSettings s)
    (sym (settings_stay port.floor_mw port.parts c.step_parts.new.parts c.args.due.now c.args.answer.now c.step_parts.ensures.parts))
    c.before-2.invariant

pub returns-clause-after : goal.returns-clause-after
returns-clause-after c =
    let port = c.before-2.inside in
    after_is c.args.before.now port.floor_mw port.parts c.step_parts.new.parts c.args.due.now c.args.answer.now c.before-2.view_is
    c.step_parts.ensures.parts

pub returns-clause-entry : goal.returns-clause-entry
returns-clause-entry c =
    let port = c.before-2.inside in let p = c.args.before.now in let d = c.args.due.now in let given = c.args.answer.now in
    let u : PortStep = portstep port.parts d given in
    let left = c.step_parts.new.entry in
    entry_is p u d given c.args.query left.faults c.change_of-entry.result left.start
    (led_whole p port.floor_mw port.parts d given c.before-2.view_is) c.requires.asks
    (ap (λ (x : Entry). x.faults) c.step_parts.ensures.entry)
    (change_is p u c.contract.result c.contract-2.result c.change_of-entry.result c.contract.ensures
    (c.contract-2.ensures ∙ ap (λ (x : PortParts). x.source.record.contract) c.step_parts.ensures.parts) c.change_of-entry.ensures)
    (ap (λ (x : Entry). x.start) c.step_parts.ensures.entry)
