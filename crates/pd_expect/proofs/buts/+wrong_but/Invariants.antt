use Rattle.std.proofs.Common.{length}
use Rattle.pd_expect.proofs.buts.+wrong_but.Given as goal

abbrev pub decreases-wrong_but : goal.decreases-wrong_but
decreases-wrong_but l = length l.most.now
