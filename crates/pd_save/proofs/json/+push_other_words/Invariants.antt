use Rattle.std.proofs.Common.{length}
use Rattle.pd_save.proofs.json.+push_other_words.Given as goal

abbrev pub decreases-push_other_words : goal.decreases-push_other_words
decreases-push_other_words l = length l.words.now
