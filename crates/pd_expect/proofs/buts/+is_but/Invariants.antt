use Rattle.std.proofs.Common.{length}
use Rattle.pd_expect.proofs.buts.+is_but.Given as goal

abbrev pub decreases-is_but : goal.decreases-is_but
decreases-is_but l = length l.most.now
