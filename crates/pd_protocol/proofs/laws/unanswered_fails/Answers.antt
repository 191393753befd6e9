use Rattle.pd_protocol.proofs.Deliveries.{unanswered_fails}
use Rattle.pd_protocol.proofs.laws.unanswered_fails.Goals as goal

pub returns : goal.returns
returns c = unanswered_fails
