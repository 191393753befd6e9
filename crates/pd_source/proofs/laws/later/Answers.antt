use Rattle.pd_source.proofs.Later.{SetsLater-stepped}
use Rattle.pd_source.proofs.laws.later.Goals as goal

pub returns : goal.returns
returns c = SetsLater-stepped
