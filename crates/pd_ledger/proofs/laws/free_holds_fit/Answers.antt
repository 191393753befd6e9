use Rattle.pd_ledger.proofs.Sums.{free-fits}
use Rattle.pd_ledger.proofs.laws.free_holds_fit.Goals as goal

pub returns : goal.returns
returns c = free-fits
