use Rattle.std.proofs.Common.{◌≡◌, ℕ, ap, sym, ◌∙◌, length, take}
use Rattle.std.proofs.lemmas.List.{length-map, take_all}
use Rattle.std.proofs.lemmas.List.FromFn.{length-map-range_with_len}
use Rattle.pd_scenario.specs.declared.event.ScenarioEvent.{ScenarioEvent}
use Rattle.pd_scenario.specs.Scenarios.{event_fits, names_are_known}
use Rattle.pd_scenario.specs.Script.{events_for, handed_out}
use Rattle.pd_scenario.proofs.Lists.{passes}
use Rattle.pd_scenario.proofs.HandedOut.{handed_more, none_yet}
use Rattle.pd_scenario.proofs.scripts.events_by_port.Goals as goal

pub loop-event-init : goal.loop-event-init
loop-event-init c = c.in_ok-lists.ensures ∙ none_yet c.args.cables.now c.args.sinks.now 1 c.args.ports

pub hand_out-requires-clause-fits : goal.hand_out-requires-clause-fits
hand_out-requires-clause-fits c =
    let made = λ (port : ℕ). events_for c.args.cables.now c.args.sinks.now port (take c.loop-event.event-index c.args.events.now) in
    let count : length c.loop-event.lists.items ≡ c.args.ports =
    sym (length-map c.loop-event.lists.items (λ s. s.items)) ∙ ap length c.loop-event.invariant
    ∙ length-map-range_with_len made 1 c.args.ports in
    rw count (passes (event_fits c.args.ports) c.args.events.now c.event-item.result c.requires.fit
    (c.loop-event.event-index, c.loop-event-test.true, sym c.event-item.is))

pub hand_out-requires-clause-known : goal.hand_out-requires-clause-known
hand_out-requires-clause-known c =
    passes (λ (e : ScenarioEvent). names_are_known c.args.cables.now c.args.sinks.now e.happening) c.args.events.now c.event-item.result
    c.requires.known (c.loop-event.event-index, c.loop-event-test.true, sym c.event-item.is)

pub loop-event-preserved : goal.loop-event-preserved
loop-event-preserved c =
    c.in_ok-hand_out.ensures
    ∙ ap (handed_out c.args.cables.now c.args.sinks.now c.event-item.result 1) c.loop-event.invariant
    ∙ handed_more c.args.cables.now c.args.sinks.now c.args.events.now c.loop-event.event-index c.event-item.result c.loop-event-test.true
    c.event-item.is 1 c.args.ports

pub returns : goal.returns
returns c = rw (take_all c.loop-event.event-index c.args.events.now c.loop-event-test.false) at c.loop-event.invariant
