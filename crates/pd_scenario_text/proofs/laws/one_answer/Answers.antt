use Rattle.pd_scenario_text.proofs.Unique.{one_answer}
use Rattle.pd_scenario_text.proofs.laws.one_answer.Goals as goal

pub returns : goal.returns
returns c = one_answer
