use Rattle.pd_guarantee.proofs.Offers.{capabilities_are_bounded}
use Rattle.pd_guarantee.proofs.laws.capabilities_are_bounded.Goals as goal

pub returns : goal.returns
returns c = capabilities_are_bounded
