use Rattle.pd_bench.proofs.Refusals.{refusals_are_shown}
use Rattle.pd_bench.proofs.laws.refusals_are_shown.Goals as goal

pub returns : goal.returns
returns c = refusals_are_shown
