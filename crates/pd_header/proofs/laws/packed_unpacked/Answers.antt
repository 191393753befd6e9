use Rattle.pd_header.proofs.Words.{packed_unpacked}
use Rattle.pd_header.proofs.laws.packed_unpacked.Goals as goal

pub returns : goal.returns
returns c = packed_unpacked
