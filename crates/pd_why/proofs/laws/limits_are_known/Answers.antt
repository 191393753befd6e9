use Rattle.pd_why.proofs.LawLemmas.{limits_known}
use Rattle.pd_why.proofs.laws.limits_are_known.Goals as goal

pub returns : goal.returns
returns c = limits_known
