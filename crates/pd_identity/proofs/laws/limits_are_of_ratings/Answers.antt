use Rattle.pd_identity.proofs.Answers.{limits_rated}
use Rattle.pd_identity.proofs.laws.limits_are_of_ratings.Goals as goal

pub returns : goal.returns
returns c = limits_rated
