use Rattle.pd_hints.proofs.SlipLemmas as lemmas
use Rattle.pd_hints.proofs.laws.slips_are_slips.Goals as goal

pub returns : goal.returns
returns c = lemmas.slips_are_slips
