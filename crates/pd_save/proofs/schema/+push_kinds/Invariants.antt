use Rattle.std.proofs.Common.{length}
use Rattle.pd_save.proofs.schema.+push_kinds.Given as goal

abbrev pub decreases-push_kinds : goal.decreases-push_kinds
decreases-push_kinds l = length l.words.now
