use Rattle.pd_port.proofs.Later.{record_after-later}
use Rattle.pd_port.proofs.laws.later.Goals as goal

pub returns : goal.returns
returns c = record_after-later
