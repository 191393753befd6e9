use Rattle.std.proofs.Common.{length}
use Rattle.pd_sweep.proofs.words.+push_listed.Given as goal

abbrev pub decreases-push_listed : goal.decreases-push_listed
decreases-push_listed l = length l.marks.now
