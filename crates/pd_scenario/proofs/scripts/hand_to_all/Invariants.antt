use Rattle.std.proofs.Common.{◌≡◌, ◌++◌, ◌∷◌, [], map, take, drop, length}
use Rattle.pd_scenario.proofs.HandedOut.{items_of}
use Rattle.pd_scenario.proofs.scripts.hand_to_all.Given as goal

abbrev pub invariant-loop-place : goal.invariant-loop-place
invariant-loop-place l =
    (length l.initial.lists.items ≡ l.place-end)
    × (length l.lists.items ≡ l.place-end)
    × (items_of l.lists.items
    ≡ map (λ events. events ++ l.event ∷ []) (take l.place (items_of l.initial.lists.items))
    ++ drop l.place (items_of l.initial.lists.items))
