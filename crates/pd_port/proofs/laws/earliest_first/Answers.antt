use Rattle.pd_port.proofs.Earliest.{due-IsEarliest}
use Rattle.pd_port.proofs.laws.earliest_first.Goals as goal

pub returns : goal.returns
returns c = due-IsEarliest
