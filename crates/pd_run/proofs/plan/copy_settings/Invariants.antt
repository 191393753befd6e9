use Rattle.std.proofs.Common.{◌≡◌, take}
use Rattle.pd_run.proofs.plan.copy_settings.Given as goal

abbrev pub invariant-loop-one : goal.invariant-loop-one
invariant-loop-one l = l.copy.items ≡ take l.one-index l.settings
