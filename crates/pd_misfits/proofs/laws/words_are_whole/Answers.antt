use Rattle.pd_misfits.proofs.Whole.{words_are_whole}
use Rattle.pd_misfits.proofs.laws.words_are_whole.Goals as goal

pub returns : goal.returns
returns c = words_are_whole
