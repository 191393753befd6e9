use Rattle.std.proofs.Common.{rules}
use Rattle.pd_port.specs.Port.{due}
use Rattle.pd_port.proofs.Steps.{earlier-None}
use Rattle.pd_port.proofs.port.own_due_of.Goals as goal

pub returns : goal.returns
unfolding due
returns c = rw earlier-None (search rules)
