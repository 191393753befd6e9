use Rattle.pd_port.proofs.Asked.{record_after-blind, entry_of-blind}
use Rattle.pd_port.proofs.laws.answered.Goals as goal

pub returns : goal.returns
returns c = λ s r d a b h. (record_after-blind s r d a b h, entry_of-blind s r d a b h)
