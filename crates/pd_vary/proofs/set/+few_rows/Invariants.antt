use Rattle.std.proofs.Common.{length}
use Rattle.pd_vary.proofs.set.+few_rows.Given as goal

abbrev pub decreases-few_rows : goal.decreases-few_rows
decreases-few_rows l = length l.sets.now
