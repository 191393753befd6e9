use Rattle.std.proofs.Common.{length}
use Rattle.pd_why.proofs.story.+push_wrong.Given as goal

abbrev pub decreases-push_wrong : goal.decreases-push_wrong
decreases-push_wrong l = length l.faults.now
