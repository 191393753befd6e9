use Rattle.std.proofs.Common.{◌≡◌, map, take}
use Rattle.std.specs.List.{range_with_len}
use Rattle.pd_scenario.specs.Script.{events_for}
use Rattle.pd_scenario.proofs.HandedOut.{items_of}
use Rattle.pd_scenario.proofs.scripts.events_by_port.Given as goal

abbrev pub invariant-loop-event : goal.invariant-loop-event
invariant-loop-event l =
    items_of l.lists.items ≡ map (λ port. events_for l.cables l.sinks port (take l.event-index l.events)) (range_with_len 1 l.ports)
