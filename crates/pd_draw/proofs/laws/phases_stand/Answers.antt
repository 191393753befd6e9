use Rattle.pd_draw.proofs.BandLemmas.{phases_stand}
use Rattle.pd_draw.proofs.laws.phases_stand.Goals as goal

pub returns : goal.returns
returns c = phases_stand
