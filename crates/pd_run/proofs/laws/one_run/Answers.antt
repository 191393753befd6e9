use Rattle.pd_run.proofs.OneRun.{run_unique}
use Rattle.pd_run.proofs.laws.one_run.Goals as goal

pub returns : goal.returns
returns c = run_unique
