use Rattle.std.proofs.Common.{length}
use Rattle.pd_vary.proofs.names.+push_asks.Given as goal

abbrev pub decreases-push_asks : goal.decreases-push_asks
decreases-push_asks l = length l.texts.now
