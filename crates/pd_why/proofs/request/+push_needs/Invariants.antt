use Rattle.std.proofs.Common.{length}
use Rattle.pd_why.proofs.request.+push_needs.Given as goal

abbrev pub decreases-push_needs : goal.decreases-push_needs
decreases-push_needs l = length l.offer.now
