use Rattle.std.proofs.Common.{length}
use Rattle.pd_noise.proofs.worst.+longest_from.Given as goal

abbrev pub decreases-longest_from : goal.decreases-longest_from
decreases-longest_from l = length l.measures.now
