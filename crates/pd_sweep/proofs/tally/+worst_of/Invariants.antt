use Rattle.std.proofs.Common.{length}
use Rattle.pd_sweep.proofs.tally.+worst_of.Given as goal

abbrev pub decreases-worst_of : goal.decreases-worst_of
decreases-worst_of l = length l.measures.now
