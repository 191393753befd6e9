use Rattle.std.proofs.Common.{◌≡◌, ◌++◌, take}
use Rattle.std.specs.List.{flat_map}
use Rattle.pd_warn.specs.Stated.{late_part}
use Rattle.pd_warn.proofs.names.push_late_events.Given as goal

abbrev pub invariant-loop-event : goal.invariant-loop-event
invariant-loop-event l = l.out.items ≡ l.initial.out.items ++ flat_map (late_part l.end) (take l.event-index l.events)
