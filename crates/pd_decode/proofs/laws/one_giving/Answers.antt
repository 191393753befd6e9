use Rattle.pd_decode.proofs.OneLemmas.{giving-one}
use Rattle.pd_decode.proofs.laws.one_giving.Goals as goal

pub returns : goal.returns
returns c = giving-one
