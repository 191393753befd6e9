use Rattle.std.proofs.Common.{length}
use Rattle.pd_run.proofs.plan.+all_same_settings.Given as goal

abbrev pub decreases-all_same_settings : goal.decreases-all_same_settings
decreases-all_same_settings l = length l.settings.now
