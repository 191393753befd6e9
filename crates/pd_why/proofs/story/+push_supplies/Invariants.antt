use Rattle.std.proofs.Common.{length}
use Rattle.pd_why.proofs.story.+push_supplies.Given as goal

abbrev pub decreases-push_supplies : goal.decreases-push_supplies
decreases-push_supplies l = length l.supplies.now
