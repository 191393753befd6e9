use Rattle.std.proofs.Common.{◌≡◌, ◌++◌, take}
use Rattle.std.specs.List.{flat_map}
use Rattle.pd_warn.specs.Stated.{uncounted_part}
use Rattle.pd_warn.proofs.plain.push_uncounted.Given as goal

abbrev pub invariant-loop-event : goal.invariant-loop-event
invariant-loop-event g l = l.out.items ≡ l.initial.out.items ++ flat_map (uncounted_part l.scenario) (take l.event-index l.events)
