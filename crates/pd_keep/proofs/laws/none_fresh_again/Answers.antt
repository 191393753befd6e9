use Rattle.pd_keep.proofs.Counts.{none_fresh_again}
use Rattle.pd_keep.proofs.laws.none_fresh_again.Goals as goal

pub returns : goal.returns
returns c = none_fresh_again
