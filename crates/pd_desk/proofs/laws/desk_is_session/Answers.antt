use Rattle.pd_desk.proofs.AsSession.{desk_is_session}
use Rattle.pd_desk.proofs.laws.desk_is_session.Goals as goal

pub returns : goal.returns
returns c = desk_is_session
