use Rattle.std.proofs.Common.{length}
use Rattle.pd_save.proofs.schema.+push_needed.Given as goal

abbrev pub decreases-push_needed : goal.decreases-push_needed
decreases-push_needed l = length l.rules.now
