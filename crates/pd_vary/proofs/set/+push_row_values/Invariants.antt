use Rattle.std.proofs.Common.{length}
use Rattle.pd_vary.proofs.set.+push_row_values.Given as goal

abbrev pub decreases-push_row_values : goal.decreases-push_row_values
decreases-push_row_values l = length l.sets.now
