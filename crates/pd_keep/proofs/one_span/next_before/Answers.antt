use Rattle.std.proofs.Common.{arith}
use Rattle.pd_run.proofs.Cut.{next_up_to, over_up_to}
use Rattle.pd_keep.proofs.Later.{if_none}
use Rattle.pd_keep.proofs.one_span.next_before.Goals as goal

pub returns-in_err-port-clause-none : goal.returns-in_err-port-clause-none
returns-in_err-port-clause-none g c =
    if_none c.from_residual.result _
    (λ past s earlier. over_up_to c.args.plan.now past c.args.live.now c.args.to s earlier c.in_err-port.ensures.over)

pub returns-else-due-to-clause-none : goal.returns-else-due-to-clause-none
returns-else-due-to-clause-none g c =
    λ past s earlier.
    next_up_to c.args.plan.now past c.args.live.now c.in_ok-port.port c.args.to c.in_ok-port.due s earlier c.in_ok-port.ensures.next
    (omega arith)
