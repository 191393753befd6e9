use Rattle.pd_scenario.proofs.Plans.{one_script}
use Rattle.pd_scenario.proofs.laws.one_script.Goals as goal

pub returns : goal.returns
returns c = one_script
