use Rattle.pd_run.proofs.Alike.{they_go_on_alike}
use Rattle.pd_run.proofs.laws.go_on_alike.Goals as goal

pub returns : goal.returns
returns c = they_go_on_alike
