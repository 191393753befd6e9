use Rattle.pd_sink.proofs.Later.{SetsLater-stepped}
use Rattle.pd_sink.proofs.laws.later.Goals as goal

pub returns : goal.returns
returns c = SetsLater-stepped
