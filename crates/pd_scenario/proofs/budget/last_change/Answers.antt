use Rattle.std.proofs.Common.{sym, ◌∙◌}
use Rattle.pd_scenario.specs.Plans.{change_of}
use Rattle.pd_scenario.proofs.Lists.{filter_map-more}
use Rattle.pd_scenario.proofs.Forces.{last-more, last-same}
use Rattle.pd_scenario.proofs.budget.last_change.Goals as goal
use Rattle.pd_scenario.proofs.budget.last_change.Goals.{in-Some, in_default}

pub loop-event-preserved : goal.loop-event-preserved
loop-event-preserved c =
    let more = filter_map-more change_of c.args.events.now c.loop-event.event-index c.event-item.result c.loop-event-test.true
    c.event-item.is in
    elim c.match-change_of.branch [
      | in-Some w ↦
          w.last-is ∙ w.with_change-last.ensures
          ∙ sym (rw (
            more,
            last-more _ c.args.at (change_of c.event-item.result) w.in-Some.change (sym w.in-Some.ensures),
            ← c.loop-event.invariant,
          ))
      | in_default w ↦ w.last-is
          ∙ sym (rw (
            more,
            last-same _ c.args.at (change_of c.event-item.result) (sym c.change_of.ensures ∙ w.in_default.is),
            ← c.loop-event.invariant,
          ))
    ]
