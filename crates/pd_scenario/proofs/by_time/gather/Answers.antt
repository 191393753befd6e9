use Rattle.std.proofs.Common.{◌≤◌, length, length-set, sym, ◌∙◌, arith}
use Rattle.pd_scenario.specs.Plans.{changes_of}
use Rattle.pd_scenario.proofs.Places.{has-room, one-more, none-more}
use Rattle.pd_scenario.proofs.by_time.gather.Goals as goal
use Rattle.pd_scenario.proofs.by_time.gather.Goals.{in-Some, in_default}

pub bounds-room-count : goal.bounds-room-count
bounds-room-count c =
    let before = c.loop-event.invariant in
    has-room c.loop-event.room c.args.events.now c.loop-event.count c.loop-event.event-index c.event-item.result c.in-Some.change
    before.within c.loop-event-test.true c.event-item.is (sym c.in-Some.ensures) before.all
    (omega (arith, before.same_room, c.requires.enough))

pub loop-event-preserved : goal.loop-event-preserved
loop-event-preserved c =
    let before = c.loop-event.invariant in
    let n = c.loop-event.count in
    let i = c.loop-event.event-index in
    let event = c.event-item.result in
    elim c.match-change_of.branch [
      | in-Some w ↦
          let is = sym w.in-Some.ensures in
          let enough : length (changes_of c.args.events.now) ≤ length c.loop-event.room
          = omega (arith, before.same_room, c.requires.enough) in
          let room = has-room c.loop-event.room c.args.events.now n i event w.in-Some.change before.within c.loop-event-test.true
          c.event-item.is is before.all enough in
          rw (w.room-is, w.count-is) (record {
            within = rw length-set (omega (arith, room));
            same_room = rw length-set before.same_room;
            all =
                one-more c.loop-event.room c.args.events.now n i event w.in-Some.change room c.loop-event-test.true c.event-item.is is
                before.all;
          })
      | in_default w ↦
          rw (w.room-is, w.count-is) (record {
            within = before.within;
            same_room = before.same_room;
            all =
                none-more c.loop-event.room c.args.events.now n i event c.loop-event-test.true c.event-item.is
                (sym c.change_of.ensures ∙ w.in_default.is) before.all;
          })
    ]
