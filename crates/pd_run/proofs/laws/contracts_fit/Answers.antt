use Rattle.pd_run.proofs.Within.{contracts_fit}
use Rattle.pd_run.proofs.laws.contracts_fit.Goals as goal

pub returns : goal.returns
returns c = contracts_fit
