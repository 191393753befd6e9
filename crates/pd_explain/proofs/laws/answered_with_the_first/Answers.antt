use Rattle.pd_explain.proofs.FirstReason.{answered_with_the_first}
use Rattle.pd_explain.proofs.laws.answered_with_the_first.Goals as goal

pub returns : goal.returns
returns c = answered_with_the_first
