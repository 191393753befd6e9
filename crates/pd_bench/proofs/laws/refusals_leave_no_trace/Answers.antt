use Rattle.pd_bench.proofs.Traces.{refusals_leave_no_trace}
use Rattle.pd_bench.proofs.laws.refusals_leave_no_trace.Goals as goal

pub returns : goal.returns
returns c = refusals_leave_no_trace
