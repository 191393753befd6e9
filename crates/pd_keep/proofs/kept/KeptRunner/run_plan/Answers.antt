use Rattle.std.proofs.Common.{refl}
use Rattle.pd_keep.proofs.Paid.{paid_anew}
use Rattle.pd_keep.proofs.kept.KeptRunner.run_plan.Goals as goal

pub returns-clause-paid : goal.returns-clause-paid
returns-clause-paid g c =
    paid_anew g.row.N c.self.inside.run c.args.self.now _ _ c.in_ok-spans.spans c.args.meter.now _ c.self.view_is refl
    c.self.invariant c.in_ok-spans.ensures.kept c.in_ok-spans.ensures.charge
