use Rattle.std.proofs.Common.{OnOk, subst}
use Rattle.pd_scenario.specs.Plan.{Plan}
use Rattle.pd_run.specs.Cost.{IsPaid}
use Rattle.pd_keep.specs.Cost.{CostsFreshMoves}
use Rattle.pd_keep.proofs.kept.KeptRunner.replace.Goals as goal

pub returns-clause-paid : goal.returns-clause-paid
returns-clause-paid g c =
    subst (λ (p : Plan). OnOk c.run_plan.result (IsPaid CostsFreshMoves c.args.self.now.plan p c.args.meter.now c.run_plan.new.meter))
    c.in_ok-plan.ensures c.run_plan.ensures.paid
