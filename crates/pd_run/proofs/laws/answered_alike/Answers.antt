use Rattle.pd_run.proofs.Alike.{answered_alike}
use Rattle.pd_run.proofs.laws.answered_alike.Goals as goal

pub returns : goal.returns
returns c = answered_alike
