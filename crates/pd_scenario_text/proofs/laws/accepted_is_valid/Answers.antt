use Rattle.pd_scenario_text.proofs.Answered.{accepted_is_valid}
use Rattle.pd_scenario_text.proofs.laws.accepted_is_valid.Goals as goal

pub returns : goal.returns
returns c = accepted_is_valid
