use Rattle.std.proofs.Common.{length}
use Rattle.pd_expect.proofs.buts.+behind_buts.Given as goal

abbrev pub decreases-behind_buts : goal.decreases-behind_buts
decreases-behind_buts l = length l.most.now
