use Rattle.pd_sweep.proofs.TruthLemmas.{measures_are_true}
use Rattle.pd_sweep.proofs.laws.measures_are_true.Goals as goal

pub returns : goal.returns
returns c = measures_are_true
