use Rattle.pd_why.proofs.LawLemmas.{detaches_told}
use Rattle.pd_why.proofs.laws.detaches_are_told.Goals as goal

pub returns : goal.returns
returns c = detaches_told
