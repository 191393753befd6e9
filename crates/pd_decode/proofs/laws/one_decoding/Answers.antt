use Rattle.pd_decode.proofs.OneLemmas.{decoding-one}
use Rattle.pd_decode.proofs.laws.one_decoding.Goals as goal

pub returns : goal.returns
returns c = decoding-one
