use Rattle.std.proofs.Common.{◌∙◌, ◌+◌, sym, ap, drop, take}
use Rattle.pd_scenario.specs.Scenarios.{ids_differ, has_id}
use Rattle.pd_scenario_text.proofs.Found.{id_differs, id_found, ids_part, events_more, events_whole}
use Rattle.pd_scenario_text.proofs.Rising.{rising_differ}
use Rattle.pd_scenario_text.proofs.distinct.ids_differ.Goals as goal

pub returns-then-ids_rise : goal.returns-then-ids_rise
returns-then-ids_rise c = sym (rising_differ c.args.events.now (rw c.if-ids_rise.true at c.ids_rise.ensures))

pub returns-then-not-is_new : goal.returns-then-not-is_new
returns-then-not-is_new c =
    let inv = c.loop-event.invariant in
    let more = events_more c.args.events.now c.loop-event.event-index c.event-item.result c.loop-event-test.true c.event-item.is in
    let new = id_differs (take c.loop-event.event-index c.args.events.now) c.loop-event.seen.keys c.event-item.result
    c.in_ok-is_new.is_new inv.0 inv.1 c.in_ok-is_new.ensures.added ∙ c.if-not-is_new.true in
    let part = ids_part (take (c.loop-event.event-index + 1) c.args.events.now) (drop (c.loop-event.event-index + 1) c.args.events.now)
    (ap ids_differ more ∙ new) in
    sym (rw events_whole at part)

pub loop-event-preserved : goal.loop-event-preserved
loop-event-preserved c =
    let inv = c.loop-event.invariant in
    let more = events_more c.args.events.now c.loop-event.event-index c.event-item.result c.loop-event-test.true c.event-item.is in
    let new = id_differs (take c.loop-event.event-index c.args.events.now) c.loop-event.seen.keys c.event-item.result
    c.in_ok-is_new.is_new inv.0 inv.1 c.in_ok-is_new.ensures.added ∙ c.if-not-is_new.false in
    let found = id_found (take c.loop-event.event-index c.args.events.now) c.loop-event.seen.keys c.insert.new.self.keys
    c.event-item.result inv.1 c.in_ok-is_new.ensures.keys in
    (ap ids_differ more ∙ new, λ id. found id ∙ sym (ap (λ events. has_id events id) more))
