use Rattle.pd_guarantee.proofs.Kept.{holds_are_kept}
use Rattle.pd_guarantee.proofs.laws.holds_are_kept.Goals as goal

pub returns : goal.returns
returns c = holds_are_kept
