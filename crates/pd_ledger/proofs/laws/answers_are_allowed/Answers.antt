use Rattle.pd_ledger.proofs.Offers.{answer-allowed}
use Rattle.pd_ledger.proofs.laws.answers_are_allowed.Goals as goal

pub returns : goal.returns
returns c = answer-allowed
