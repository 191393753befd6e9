use Rattle.std.proofs.Common.{◌≡◌, ◌++◌, map, take}
use Rattle.std.specs.List.{flat_map}
use Rattle.toml.specs.View.{view}
use Rattle.pd_misfits.specs.Supplies.{behind_comma}
use Rattle.pd_misfits.proofs.supplies.push_others.Given as goal

abbrev pub invariant-loop-value : goal.invariant-loop-value
invariant-loop-value l =
    l.text.items ≡ l.initial.text.items ++ flat_map behind_comma (map (λ v. view v) (take l.value-index l.values))
