use Rattle.std.proofs.Common.{◌≡◌, map, take}
use Rattle.pd_run.specs.Start.{start_of}
use Rattle.pd_run.proofs.plan.Plan.ports.Given as goal

abbrev pub invariant-loop-settings : goal.invariant-loop-settings
invariant-loop-settings g l = l.ports.items ≡ map start_of (take l.settings-index l.settings-items)
