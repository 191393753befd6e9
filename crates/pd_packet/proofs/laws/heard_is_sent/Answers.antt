use Rattle.pd_packet.proofs.Alike.{heard_alike}
use Rattle.pd_packet.proofs.laws.heard_is_sent.Goals as goal

pub returns : goal.returns
returns c = heard_alike
