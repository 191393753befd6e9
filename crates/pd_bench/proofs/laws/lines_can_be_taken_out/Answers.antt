use Rattle.pd_bench.proofs.TakenOut.{lines_can_be_taken_out}
use Rattle.pd_bench.proofs.laws.lines_can_be_taken_out.Goals as goal

pub returns : goal.returns
returns c = lines_can_be_taken_out
