use Rattle.pd_header.proofs.Numbers.{kinds_come_back}
use Rattle.pd_header.proofs.laws.kinds_come_back.Goals as goal

pub returns : goal.returns
returns c = kinds_come_back
