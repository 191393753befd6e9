use Rattle.pd_run.proofs.Sheds.{sheds_always_last}
use Rattle.pd_run.proofs.laws.sheds_last.Goals as goal

pub returns : goal.returns
returns c = sheds_always_last
