use Rattle.std.proofs.Common.{length}
use Rattle.pd_expect.proofs.meant.+near_word.Given as goal

abbrev pub decreases-near_word : goal.decreases-near_word
decreases-near_word l = length l.rows.now
