use Rattle.pd_source.proofs.Answered.{stepped-same, acts_of-same}
use Rattle.pd_source.proofs.laws.answered.Goals as goal

pub returns : goal.returns
returns c = λ s now x a b r h. (stepped-same s now x a b r h, acts_of-same s now x a b r h)
