use Rattle.std.proofs.Common.{length}
use Rattle.pd_text.proofs.members.+push_next_names.Given as goal

abbrev pub decreases-push_next_names : goal.decreases-push_next_names
decreases-push_next_names l = length l.names.now
