use Rattle.std.proofs.Common.{sym, ◌∙◌}
use Rattle.std.proofs.lemmas.List.{append-nil, take_all}
use Rattle.std.proofs.lemmas.Result.{err_from_is_err_and}
use Rattle.pd_scenario.specs.declared.event.ScenarioEvent.{ScenarioEvent}
use Rattle.pd_scenario.specs.Scenarios.{event_fits, names_are_known}
use Rattle.pd_scenario.specs.Script.{event_for}
use Rattle.pd_scenario.proofs.Lists.{filter_map-more, passes}
use Rattle.pd_scenario.proofs.order.events_for.Goals as goal
use Rattle.pd_scenario.proofs.order.events_for.Goals.{in-Some+in_ok-push, in_default}

pub event_for-requires-clause-fits : goal.event_for-requires-clause-fits
event_for-requires-clause-fits g c =
    passes (event_fits c.args.ports) c.args.events.now c.event-item.result c.requires.fit
    (c.loop-event.event-index, c.loop-event-test.true, sym c.event-item.is)

pub event_for-requires-clause-known : goal.event_for-requires-clause-known
event_for-requires-clause-known g c =
    passes (λ (e : ScenarioEvent). names_are_known c.args.cables.now c.args.sinks.now e.happening) c.args.events.now c.event-item.result
    c.requires.known (c.loop-event.event-index, c.loop-event-test.true, sym c.event-item.is)

pub loop-event-preserved : goal.loop-event-preserved
loop-event-preserved g c =
    let for_port = event_for c.args.cables.now c.args.sinks.now c.args.port in
    let more = filter_map-more for_port c.args.events.now c.loop-event.event-index c.event-item.result c.loop-event-test.true
    c.event-item.is in
    elim c.match-event_for.branch [
      | in-Some+in_ok-push w ↦ rw (w.made-is, more, w.in_ok-push.ensures.items, ← w.in-Some.ensures, ← c.loop-event.invariant)
      | in_default w ↦ rw (w.made-is, more, sym c.event_for.ensures ∙ w.in_default.is, append-nil, ← c.loop-event.invariant)
    ]

pub returns-in_err-push : goal.returns-in_err-push
returns-in_err-push g c = let p = err_from_is_err_and c.from_residual.result c.from_residual.ensures.1 in rw p.1 tt

pub returns : goal.returns
returns g c = rw (take_all c.loop-event.event-index c.args.events.now c.loop-event-test.false) at c.loop-event.invariant
