use Rattle.pd_sweep.proofs.TruthLemmas.{hits_are_true}
use Rattle.pd_sweep.proofs.laws.hits_are_true.Goals as goal

pub returns : goal.returns
returns c = hits_are_true
