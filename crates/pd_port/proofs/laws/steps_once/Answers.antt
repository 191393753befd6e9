use Rattle.pd_port.proofs.Asked.{record_after-source}
use Rattle.pd_port.proofs.laws.steps_once.Goals as goal

pub returns : goal.returns
returns c = record_after-source
