use Rattle.pd_port.proofs.Busy.{record_after-detached}
use Rattle.pd_port.proofs.laws.detached.Goals as goal

pub returns : goal.returns
returns c = record_after-detached
