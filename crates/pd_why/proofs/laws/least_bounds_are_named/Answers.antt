use Rattle.pd_why.proofs.BoundLemmas.{least_named}
use Rattle.pd_why.proofs.laws.least_bounds_are_named.Goals as goal

pub returns : goal.returns
returns c = λ free limit s. least_named free limit s
