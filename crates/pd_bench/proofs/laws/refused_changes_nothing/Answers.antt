use Rattle.pd_bench.proofs.Refusals.{refused_changes_nothing}
use Rattle.pd_bench.proofs.laws.refused_changes_nothing.Goals as goal

pub returns : goal.returns
returns c = refused_changes_nothing
