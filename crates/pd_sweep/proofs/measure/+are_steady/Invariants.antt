use Rattle.std.proofs.Common.{length}
use Rattle.pd_sweep.proofs.measure.+are_steady.Given as goal

abbrev pub decreases-are_steady : goal.decreases-are_steady
decreases-are_steady l = length l.measures.now
