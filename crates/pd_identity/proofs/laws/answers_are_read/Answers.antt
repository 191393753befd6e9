use Rattle.pd_identity.proofs.Answers.{answers_read}
use Rattle.pd_identity.proofs.laws.answers_are_read.Goals as goal

pub returns : goal.returns
returns c = answers_read
