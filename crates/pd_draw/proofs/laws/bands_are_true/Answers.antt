use Rattle.pd_draw.proofs.BandLemmas.{bands_are_true}
use Rattle.pd_draw.proofs.laws.bands_are_true.Goals as goal

pub returns : goal.returns
returns c = bands_are_true
