use Rattle.std.proofs.Common.{length}
use Rattle.pd_save.proofs.schema.+push_other_kind_cases.Given as goal

abbrev pub decreases-push_other_kind_cases : goal.decreases-push_other_kind_cases
decreases-push_other_kind_cases l = length l.words.now
