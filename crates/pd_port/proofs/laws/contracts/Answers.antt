use Rattle.pd_port.proofs.Contracts.{contracts_are_told}
use Rattle.pd_port.proofs.laws.contracts.Goals as goal

pub returns : goal.returns
returns c = contracts_are_told
