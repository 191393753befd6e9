use Rattle.pd_desk.proofs.Back.{there_and_back}
use Rattle.pd_desk.proofs.laws.there_and_back.Goals as goal

pub returns : goal.returns
returns c = there_and_back
