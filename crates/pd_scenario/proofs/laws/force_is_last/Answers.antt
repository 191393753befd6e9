use Rattle.pd_scenario.proofs.Forces.{force_is_last}
use Rattle.pd_scenario.proofs.laws.force_is_last.Goals as goal

pub returns : goal.returns
returns c = force_is_last
