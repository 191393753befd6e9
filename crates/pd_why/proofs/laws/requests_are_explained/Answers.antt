use Rattle.pd_why.proofs.LawLemmas.{requests_explained}
use Rattle.pd_why.proofs.laws.requests_are_explained.Goals as goal

pub returns : goal.returns
returns c = requests_explained
