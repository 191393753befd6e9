use Rattle.std.proofs.Common.{length}
use Rattle.pd_vary.proofs.condition.+push_verdicts.Given as goal

abbrev pub decreases-push_verdicts : goal.decreases-push_verdicts
decreases-push_verdicts g l = length l.wheres.now
