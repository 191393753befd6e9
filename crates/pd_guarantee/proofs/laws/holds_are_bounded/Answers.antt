use Rattle.pd_guarantee.proofs.Most.{holds_are_bounded}
use Rattle.pd_guarantee.proofs.laws.holds_are_bounded.Goals as goal

pub returns : goal.returns
returns c = holds_are_bounded
