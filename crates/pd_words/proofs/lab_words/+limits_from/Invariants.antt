use Rattle.std.proofs.Common.{length}
use Rattle.pd_words.proofs.lab_words.+limits_from.Given as goal

abbrev pub decreases-limits_from : goal.decreases-limits_from
decreases-limits_from l = length l.names.now
