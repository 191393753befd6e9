use Rattle.std.proofs.Common.{length}
use Rattle.pd_vary.proofs.tell.+push_no_values.Given as goal

abbrev pub decreases-push_no_values : goal.decreases-push_no_values
decreases-push_no_values l = length l.asks.now
