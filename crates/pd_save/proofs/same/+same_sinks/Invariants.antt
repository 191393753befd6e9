use Rattle.std.proofs.Common.{length}
use Rattle.pd_save.proofs.same.+same_sinks.Given as goal

abbrev pub decreases-same_sinks : goal.decreases-same_sinks
decreases-same_sinks l = length l.sinks.now
