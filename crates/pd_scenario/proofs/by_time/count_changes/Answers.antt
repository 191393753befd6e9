use Rattle.std.proofs.Common.{sym, ◌∙◌, arith}
use Rattle.pd_scenario.proofs.Places.{one-counted, none-counted}
use Rattle.pd_scenario.proofs.by_time.count_changes.Goals as goal
use Rattle.pd_scenario.proofs.by_time.count_changes.Goals.{in-Some, in_default}

pub loop-event-preserved : goal.loop-event-preserved
loop-event-preserved c =
    let before = c.loop-event.invariant in
    let n = c.loop-event.count in
    let i = c.loop-event.event-index in
    let event = c.event-item.result in
    elim c.match-change_of.branch [
      | in-Some w ↦
          rw w.count-is (record {
            behind = omega (arith, before.behind);
            counted =
                one-counted c.args.events.now n i event w.in-Some._change c.loop-event-test.true c.event-item.is (sym w.in-Some.ensures)
                before.counted;
          })
      | in_default w ↦
          rw w.count-is (record {
            behind = omega (arith, before.behind);
            counted =
                none-counted c.args.events.now n i event c.loop-event-test.true c.event-item.is
                (sym c.change_of.ensures ∙ w.in_default.is) before.counted;
          })
    ]
