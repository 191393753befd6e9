use Rattle.pd_scenario.specs.Plans.{plan_of}
use Rattle.pd_scenario.proofs.Plans.{valid_is_plan}
use Rattle.pd_scenario.proofs.scenario.Scenario.scripts.Goals as goal

pub returns-clause-value : goal.returns-clause-value
unfolding plan_of
returns-clause-value g c =
    rw (← c.self.view_is, c.self.invariant.settings_count, ← c.deref.ensures.value, ← c.deref-2.ensures.value, ← c.deref-3.ensures.value)
    c.scripts.ensures

pub returns-clause-is_plan : goal.returns-clause-is_plan
returns-clause-is_plan g c = rw (← c.self.view_is) (valid_is_plan g.row.N _ c.self.invariant)
