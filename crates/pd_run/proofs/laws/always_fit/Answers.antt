use Rattle.pd_run.proofs.Within.{fits_run}
use Rattle.pd_run.proofs.laws.always_fit.Goals as goal

pub returns : goal.returns
returns c = fits_run
