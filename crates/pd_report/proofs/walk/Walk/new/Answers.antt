use Rattle.pd_scenario.specs.Plan.{Plan}
use Rattle.pd_scenario.specs.Plans.{plan_of}
use Rattle.pd_report.proofs.walk.Walk.new.Goals as goal

pub returns-clause-knows : goal.returns-clause-knows
returns-clause-knows g c =
    let plan : Plan = plan_of c.args.scenario.now in
    let stands = c.passed-place.ensures.stands in
    record {
      order_is = c.requires;
      stands = stands;
      budget_is = c.budget_at.ensures plan 0 c.requires stands (λ none. c.budget.ensures.value);
      next_is = c.next_at.ensures plan.forces 0 c.requires stands;
    }
