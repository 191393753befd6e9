use Rattle.std.proofs.Common.{◌≡◌, take}
use Rattle.std.specs.List.{flat_map}
use Rattle.pd_sweep.specs.Choices.{chosen_of}
use Rattle.pd_sweep.proofs.packets.chosen.Given as goal

abbrev pub invariant-loop-index : goal.invariant-loop-index
invariant-loop-index g l = l.targets.items ≡ flat_map (chosen_of l.choice) (take l.index (g.T.Runner.entries l.run))
