use Rattle.std.proofs.Common.{length}
use Rattle.pd_vary.proofs.outcome.+outcome_of.Given as goal

abbrev pub decreases-outcome_of : goal.decreases-outcome_of
decreases-outcome_of g l = length l.lines.now
