use Rattle.pd_why.proofs.LawLemmas.{shares_told}
use Rattle.pd_why.proofs.laws.shares_are_told.Goals as goal

pub returns : goal.returns
returns c = shares_told
