use Rattle.std.proofs.Common.{length}
use Rattle.pd_run.proofs.beside.+same_changes.Given as goal

abbrev pub decreases-same_changes : goal.decreases-same_changes
decreases-same_changes l = length l.changes.now
