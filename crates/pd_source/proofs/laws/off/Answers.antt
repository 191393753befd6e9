use Rattle.pd_source.proofs.Attached.{off-stepped}
use Rattle.pd_source.proofs.laws.off.Goals as goal

pub returns : goal.returns
returns c = off-stepped
