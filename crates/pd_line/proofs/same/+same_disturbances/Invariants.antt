use Rattle.std.proofs.Common.{length}
use Rattle.pd_line.proofs.same.+same_disturbances.Given as goal

abbrev pub decreases-same_disturbances : goal.decreases-same_disturbances
decreases-same_disturbances l = length l.first.now
