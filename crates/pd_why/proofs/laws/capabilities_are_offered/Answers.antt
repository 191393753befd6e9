use Rattle.pd_why.proofs.LawLemmas.{capabilities_offered}
use Rattle.pd_why.proofs.laws.capabilities_are_offered.Goals as goal

pub returns : goal.returns
returns c = capabilities_offered
