use Rattle.pd_edit.proofs.Least.{least_refusal}
use Rattle.pd_edit.proofs.laws.least_refusal.Goals as goal

pub returns : goal.returns
returns c = least_refusal
