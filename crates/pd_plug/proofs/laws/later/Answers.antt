use Rattle.pd_plug.proofs.Later.{SetsLater-stepped}
use Rattle.pd_plug.proofs.laws.later.Goals as goal

pub returns : goal.returns
returns c = SetsLater-stepped
