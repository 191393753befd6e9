use Rattle.pd_scenario.proofs.Plans.{valid_is_plan}
use Rattle.pd_scenario.proofs.scenario.Scenario.budget.Goals as goal

pub returns-clause-is_plan : goal.returns-clause-is_plan
returns-clause-is_plan g c = rw (← c.self.view_is) (valid_is_plan g.row.N _ c.self.invariant)
