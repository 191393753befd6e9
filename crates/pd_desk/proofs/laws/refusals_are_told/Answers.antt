use Rattle.pd_desk.proofs.Told.{refusals_are_told}
use Rattle.pd_desk.proofs.laws.refusals_are_told.Goals as goal

pub returns : goal.returns
returns c = refusals_are_told
