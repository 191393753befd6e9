use Rattle.pd_scenario_text.proofs.Answered.{accepted_exactly}
use Rattle.pd_scenario_text.proofs.laws.accepted_exactly.Goals as goal

pub returns : goal.returns
returns c = accepted_exactly
