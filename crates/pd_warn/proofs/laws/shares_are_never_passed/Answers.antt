use Rattle.pd_warn.proofs.WithinShares.{shares_are_never_passed}
use Rattle.pd_warn.proofs.laws.shares_are_never_passed.Goals as goal

pub returns : goal.returns
returns c = shares_are_never_passed
