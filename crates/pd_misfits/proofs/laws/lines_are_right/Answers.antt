use Rattle.pd_misfits.proofs.Found.{lines_are_right}
use Rattle.pd_misfits.proofs.laws.lines_are_right.Goals as goal

pub returns : goal.returns
returns c = lines_are_right
