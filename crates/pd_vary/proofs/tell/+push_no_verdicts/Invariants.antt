use Rattle.std.proofs.Common.{length}
use Rattle.pd_vary.proofs.tell.+push_no_verdicts.Given as goal

abbrev pub decreases-push_no_verdicts : goal.decreases-push_no_verdicts
decreases-push_no_verdicts l = length l.wheres.now
