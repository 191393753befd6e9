use Rattle.pd_port.proofs.Sheds.{sheds_last}
use Rattle.pd_port.proofs.laws.sheds.Goals as goal

pub returns : goal.returns
returns c = sheds_last
