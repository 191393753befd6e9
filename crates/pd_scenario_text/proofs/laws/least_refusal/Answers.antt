use Rattle.pd_scenario_text.proofs.Answered.{least_refusal}
use Rattle.pd_scenario_text.proofs.laws.least_refusal.Goals as goal

pub returns : goal.returns
returns c = least_refusal
