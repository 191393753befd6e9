use Rattle.pd_scenario.specs.Plans.{plan_of}
use Rattle.pd_run.proofs.Plans.{IsPlan-again}
use Rattle.pd_run.proofs.plan.Plan.of_scenario.Goals as goal

pub invariant_of-result : goal.invariant_of-result
invariant_of-result g c =
    IsPlan-again g.row.N (plan_of c.args.scenario.now) _ _ _ _ _ c.in_ok-settings.ensures c.in_ok-scripts.ensures.value
    c.budget.ensures.value c.in_ok-forces.ensures c.end_time.ensures.value c.end_time.ensures.is_plan
