use Rattle.std.proofs.Common.{◌≡◌, take}
use Rattle.pd_scenario.specs.Plans.{changes_of}
use Rattle.pd_scenario.proofs.scenario.changes_of.Given as goal

abbrev pub invariant-loop-event : goal.invariant-loop-event
invariant-loop-event g l = l.changes.items ≡ changes_of (take l.event-index l.events)
