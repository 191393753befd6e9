use Rattle.pd_run.proofs.Paid.{paid_whole}
use Rattle.pd_run.proofs.plain.PlainRunner.run_plan.Goals as goal

pub returns-clause-paid : goal.returns-clause-paid
returns-clause-paid g c =
    paid_whole c.self.inside.plan c.args.next _ _ _ c.in_ok-entries.ensures.run c.in_ok-entries.ensures.cost
