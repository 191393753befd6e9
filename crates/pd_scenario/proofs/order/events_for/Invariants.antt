use Rattle.std.proofs.Common.{◌≡◌, take}
use Rattle.pd_scenario.specs.Script.{events_for}
use Rattle.pd_scenario.proofs.order.events_for.Given as goal

abbrev pub invariant-loop-event : goal.invariant-loop-event
invariant-loop-event g l = l.made.items ≡ events_for l.cables l.sinks l.port (take l.event-index l.events)
