use Rattle.pd_packet.proofs.Answered.{replaced_is_fault}
use Rattle.pd_packet.proofs.laws.replaced_is_fault.Goals as goal

pub returns : goal.returns
returns c = replaced_is_fault
