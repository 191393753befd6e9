use Rattle.pd_port.proofs.Packets.{disturbed_reach_nobody}
use Rattle.pd_port.proofs.laws.disturbed.Goals as goal

pub returns : goal.returns
returns c = disturbed_reach_nobody
