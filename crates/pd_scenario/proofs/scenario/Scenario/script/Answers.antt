use Rattle.std.proofs.Common.{◌≡◌, ◌+◌, ◌-◌, ◌<◌, length, arith}
use Rattle.pd_scenario.proofs.Plans.{valid_is_plan, script_of-plan_of}
use Rattle.pd_scenario.proofs.scenario.Scenario.script.Goals as goal

pub returns-clause-value : goal.returns-clause-value
returns-clause-value g c =
    let port : c.args.port - 1 + 1 ≡ c.args.port = omega arith in
    let within : c.args.port - 1 < length c.args.self.now.settings =
    rw (← c.self.view_is) (omega (arith, c.self.invariant.settings_count)) in
    rw (
      script_of-plan_of c.args.self.now (c.args.port - 1) within,
      port,
      ← c.self.view_is,
      ← c.deref.ensures.value,
      ← c.deref-2.ensures.value,
      ← c.deref-3.ensures.value,
    ) c.script.ensures

pub returns-clause-is_plan : goal.returns-clause-is_plan
returns-clause-is_plan g c = rw (← c.self.view_is) (valid_is_plan g.row.N _ c.self.invariant)
