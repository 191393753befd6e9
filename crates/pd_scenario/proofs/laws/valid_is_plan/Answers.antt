use Rattle.pd_scenario.proofs.Plans.{valid_is_plan}
use Rattle.pd_scenario.proofs.laws.valid_is_plan.Goals as goal

pub returns : goal.returns
returns c = valid_is_plan
