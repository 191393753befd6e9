use Rattle.std.proofs.Common.{sym, ◌∙◌}
use Rattle.std.proofs.lemmas.List.{append-nil, take_all}
use Rattle.std.proofs.lemmas.Result.{err_from_is_err_and}
use Rattle.pd_scenario.specs.Plans.{change_of}
use Rattle.pd_scenario.proofs.Lists.{filter_map-more}
use Rattle.pd_scenario.proofs.scenario.changes_of.Goals as goal
use Rattle.pd_scenario.proofs.scenario.changes_of.Goals.{in-Some+in_ok-push, in_default}

pub loop-event-preserved : goal.loop-event-preserved
loop-event-preserved g c =
    let more = filter_map-more change_of c.args.events.now c.loop-event.event-index c.event-item.result c.loop-event-test.true
    c.event-item.is in
    elim c.match-change_of.branch [
      | in-Some+in_ok-push w ↦ rw (w.changes-is, more, w.in_ok-push.ensures.items, ← w.in-Some.ensures, ← c.loop-event.invariant)
      | in_default w ↦ rw (w.changes-is, more, sym c.change_of.ensures ∙ w.in_default.is, append-nil, ← c.loop-event.invariant)
    ]

pub returns-in_err-push : goal.returns-in_err-push
returns-in_err-push g c = let p = err_from_is_err_and c.from_residual.result c.from_residual.ensures.1 in rw p.1 tt

pub returns : goal.returns
returns g c = rw (take_all c.loop-event.event-index c.args.events.now c.loop-event-test.false) at c.loop-event.invariant
