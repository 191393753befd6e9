use Rattle.std.proofs.Common.{◌≡◌, ◌++◌, [], map, fold}
use Rattle.std.specs.List.{range_with_len}
use Rattle.pd_scenario.specs.Script.{events_for, put}
use Rattle.pd_scenario.proofs.HandedOut.{items_of}
use Rattle.pd_scenario.proofs.scripts.scripts.Given as goal

abbrev pub invariant-loop-list : goal.invariant-loop-list
invariant-loop-list l =
    (items_of l.scripts.items ≡ map (fold put []) (items_of l.yielded))
    × (items_of (l.yielded ++ l.list-iterator.rest.items)
    ≡ map (λ port. events_for l.cables l.sinks port l.events) (range_with_len 1 l.ports))
