use Rattle.pd_guarantee.proofs.Offers.{offers_are_bounded}
use Rattle.pd_guarantee.proofs.laws.offers_are_bounded.Goals as goal

pub returns : goal.returns
returns c = offers_are_bounded
