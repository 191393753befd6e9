use Rattle.pd_protocol.proofs.Deliveries.{answered_is_sent}
use Rattle.pd_protocol.proofs.laws.answered_is_sent.Goals as goal

pub returns : goal.returns
returns c = answered_is_sent
