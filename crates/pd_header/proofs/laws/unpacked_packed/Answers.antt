use Rattle.pd_header.proofs.Words.{unpacked_packed}
use Rattle.pd_header.proofs.laws.unpacked_packed.Goals as goal

pub returns : goal.returns
returns c = unpacked_packed
