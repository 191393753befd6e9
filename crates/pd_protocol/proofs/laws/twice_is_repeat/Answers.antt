use Rattle.pd_protocol.proofs.Deliveries.{twice_is_repeat}
use Rattle.pd_protocol.proofs.laws.twice_is_repeat.Goals as goal

pub returns : goal.returns
returns c = twice_is_repeat
