use Rattle.pd_warn.proofs.Whys.{whys_are_true}
use Rattle.pd_warn.proofs.laws.whys_are_true.Goals as goal

pub returns : goal.returns
returns c = whys_are_true
