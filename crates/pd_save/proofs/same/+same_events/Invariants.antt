use Rattle.std.proofs.Common.{length}
use Rattle.pd_save.proofs.same.+same_events.Given as goal

abbrev pub decreases-same_events : goal.decreases-same_events
decreases-same_events l = length l.events.now
