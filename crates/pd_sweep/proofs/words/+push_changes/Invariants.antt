use Rattle.std.proofs.Common.{length}
use Rattle.pd_sweep.proofs.words.+push_changes.Given as goal

abbrev pub decreases-push_changes : goal.decreases-push_changes
decreases-push_changes l = length l.olds.now
