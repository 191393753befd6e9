use Rattle.std.proofs.Common.{◌≡◌, ◌≤◌, length, take}
use Rattle.pd_scenario.specs.Plans.{changes_of}
use Rattle.pd_scenario.proofs.by_time.gather.Given as goal

abbrev pub invariant-loop-event : goal.invariant-loop-event
invariant-loop-event l = record {
  within : l.count ≤ length l.room;
  same_room : length l.room ≡ length l.fn.room;
  all : take l.count l.room ≡ changes_of (take l.event-index l.events);
}
