use Rattle.pd_ledger.proofs.Offers.{offered-greatest}
use Rattle.pd_ledger.proofs.laws.offers_are_greatest.Goals as goal

pub returns : goal.returns
returns c = offered-greatest
