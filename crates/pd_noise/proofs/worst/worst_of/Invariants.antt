use Rattle.std.proofs.Common.{◌≡◌, ◌+◌, None, drop}
use Rattle.pd_noise.specs.Worsts.{worst_from}
use Rattle.pd_noise.proofs.worst.worst_of.Given as goal

abbrev pub invariant-loop-index : goal.invariant-loop-index
invariant-loop-index l = worst_from l.first None l.noisies ≡ worst_from (l.first + l.index) l.worst (drop l.index l.noisies)
