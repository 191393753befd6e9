use Rattle.pd_places.proofs.LeastFirst.{least_first}
use Rattle.pd_places.proofs.laws.least_is_first.Goals as goal

pub returns : goal.returns
returns c = least_first
