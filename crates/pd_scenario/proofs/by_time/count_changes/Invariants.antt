use Rattle.std.proofs.Common.{◌≡◌, ◌≤◌, length, take}
use Rattle.pd_scenario.specs.Plans.{changes_of}
use Rattle.pd_scenario.proofs.by_time.count_changes.Given as goal

abbrev pub invariant-loop-event : goal.invariant-loop-event
invariant-loop-event l = record {
  behind : l.count ≤ l.event-index;
  counted : l.count ≡ length (changes_of (take l.event-index l.events));
}
