use Rattle.pd_port.proofs.Agreed.{ports_agree}
use Rattle.pd_port.proofs.laws.agreed.Goals as goal

pub returns : goal.returns
returns c = ports_agree
