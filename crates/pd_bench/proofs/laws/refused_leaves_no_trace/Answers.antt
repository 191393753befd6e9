use Rattle.pd_bench.proofs.Traces.{refused_leaves_no_trace}
use Rattle.pd_bench.proofs.laws.refused_leaves_no_trace.Goals as goal

pub returns : goal.returns
returns c = refused_leaves_no_trace
