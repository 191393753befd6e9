use Rattle.std.proofs.Common.{length}
use Rattle.pd_vary.proofs.tell.+push_verdicts.Given as goal

abbrev pub decreases-push_verdicts : goal.decreases-push_verdicts
decreases-push_verdicts l = length l.verdicts.now
