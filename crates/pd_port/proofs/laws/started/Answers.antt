use Rattle.pd_port.proofs.Packets.{starts_are_on_the_line}
use Rattle.pd_port.proofs.laws.started.Goals as goal

pub returns : goal.returns
returns c = starts_are_on_the_line
