use Rattle.pd_port.proofs.Cables.{ports_know_cables}
use Rattle.pd_port.proofs.laws.cables.Goals as goal

pub returns : goal.returns
returns c = ports_know_cables
