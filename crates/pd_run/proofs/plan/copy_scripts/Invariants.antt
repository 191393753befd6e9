use Rattle.std.proofs.Common.{◌≡◌, map, take}
use Rattle.pd_run.proofs.plan.copy_scripts.Given as goal

abbrev pub invariant-loop-script : goal.invariant-loop-script
invariant-loop-script l = map (λ v. v.items) l.copy.items ≡ map (λ v. v.items) (take l.script-index l.scripts)
