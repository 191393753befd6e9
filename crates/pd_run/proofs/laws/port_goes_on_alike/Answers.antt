use Rattle.pd_run.proofs.Alike.{each_goes_on_alike}
use Rattle.pd_run.proofs.laws.port_goes_on_alike.Goals as goal

pub returns : goal.returns
returns c = each_goes_on_alike
