use Rattle.pd_scenario_text.proofs.Unique.{one_count}
use Rattle.pd_scenario_text.proofs.laws.one_count.Goals as goal

pub returns : goal.returns
returns c = one_count
