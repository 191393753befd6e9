use Rattle.std.proofs.Common.{◌≡◌, map, take}
use Rattle.pd_noise.specs.Reports.{value_of}
use Rattle.pd_noise.proofs.column.Column.values_of.Given as goal

abbrev pub invariant-loop-noisy : goal.invariant-loop-noisy
invariant-loop-noisy l = l.values.items ≡ map (value_of l.self) (take l.noisy-index l.noisies)
