use Rattle.pd_ledger.proofs.Offers.{offered-some}
use Rattle.pd_ledger.proofs.laws.offers_are_some.Goals as goal

pub returns : goal.returns
returns c = offered-some
