use Rattle.std.proofs.Common.{◌≡◌, take}
use Rattle.pd_scenario.specs.Plans.{plan_of}
use Rattle.pd_run.proofs.plan.settings_of.Given as goal

abbrev pub invariant-loop-port : goal.invariant-loop-port
invariant-loop-port g l = l.settings.items ≡ take l.port (plan_of l.scenario).settings
