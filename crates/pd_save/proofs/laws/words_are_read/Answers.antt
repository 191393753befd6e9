use Rattle.pd_save.proofs.Read.{words_are_read}
use Rattle.pd_save.proofs.laws.words_are_read.Goals as goal

pub returns : goal.returns
returns c = words_are_read
