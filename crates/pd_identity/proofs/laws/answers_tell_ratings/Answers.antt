use Rattle.pd_identity.proofs.Answers.{limits_told}
use Rattle.pd_identity.proofs.laws.answers_tell_ratings.Goals as goal

pub returns : goal.returns
returns c = limits_told
