use Rattle.pd_hints.proofs.HaveReasons.{each_has}
use Rattle.pd_hints.proofs.laws.each_has_a_reason.Goals as goal

pub returns : goal.returns
returns c = each_has
