use Rattle.std.proofs.Common.{◌≡◌, map, take}
use Rattle.std.specs.List.{filter}
use Rattle.pd_sweep.specs.Sets.{is_behind, with_one}
use Rattle.pd_sweep.proofs.sets.further.Given as goal

abbrev pub invariant-loop-target : goal.invariant-loop-target
invariant-loop-target g l = l.sets.items ≡ map (with_one l.packets) (filter (is_behind l.last) (take l.target-index l.target-items))
