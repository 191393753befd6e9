use Rattle.pd_scenario_text.proofs.Unique.{numbers_differ}
use Rattle.pd_scenario_text.proofs.laws.numbers_differ.Goals as goal

pub returns : goal.returns
returns c = numbers_differ
