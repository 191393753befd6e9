use Rattle.std.proofs.Common.{◌≡◌, ◌++◌, map, take}
use Rattle.std.specs.List.{flat_map}
use Rattle.pd_vary.specs.Tellings.{placed_value}
use Rattle.pd_vary.proofs.tell.push_placed_values.Given as goal

abbrev pub invariant-loop-value : goal.invariant-loop-value
invariant-loop-value l =
    l.text.items ≡ l.initial.text.items ++ flat_map placed_value (map (λ v. v.items) (take l.value-index l.values))
