use Rattle.pd_header.proofs.Numbers.{numbers_come_back}
use Rattle.pd_header.proofs.laws.numbers_come_back.Goals as goal

pub returns : goal.returns
returns c = numbers_come_back
