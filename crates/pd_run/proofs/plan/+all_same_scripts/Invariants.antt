use Rattle.std.proofs.Common.{length}
use Rattle.pd_run.proofs.plan.+all_same_scripts.Given as goal

abbrev pub decreases-all_same_scripts : goal.decreases-all_same_scripts
decreases-all_same_scripts l = length l.scripts.now
