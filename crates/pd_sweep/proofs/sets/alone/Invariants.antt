use Rattle.std.proofs.Common.{◌≡◌, map, take}
use Rattle.pd_sweep.specs.declared.sets.Packets.TheVariants.{One}
use Rattle.pd_sweep.proofs.sets.alone.Given as goal

abbrev pub invariant-loop-target : goal.invariant-loop-target
invariant-loop-target l = l.sets.items ≡ map One (take l.target-index l.targets)
