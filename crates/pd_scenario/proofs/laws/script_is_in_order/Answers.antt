use Rattle.pd_scenario.proofs.Plans.{script_is_in_order}
use Rattle.pd_scenario.proofs.laws.script_is_in_order.Goals as goal

pub returns : goal.returns
returns c = script_is_in_order
