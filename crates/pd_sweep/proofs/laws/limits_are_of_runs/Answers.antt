use Rattle.pd_sweep.proofs.LimitLemmas.{limits_are_of_runs}
use Rattle.pd_sweep.proofs.laws.limits_are_of_runs.Goals as goal

pub returns : goal.returns
returns c = limits_are_of_runs
