use Rattle.pd_keep.proofs.Counts.{one_count}
use Rattle.pd_keep.proofs.laws.one_count.Goals as goal

pub returns : goal.returns
returns c = one_count
