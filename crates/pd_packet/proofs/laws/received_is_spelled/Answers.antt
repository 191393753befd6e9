use Rattle.pd_packet.proofs.Heard.{received_is_spelled}
use Rattle.pd_packet.proofs.laws.received_is_spelled.Goals as goal

pub returns : goal.returns
returns c = received_is_spelled
