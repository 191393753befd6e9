use Rattle.std.proofs.Common.{List, [], Option, sym, subst}
use Rattle.std.proofs.lemmas.Result.{IfOk-weaker}
use Rattle.pd_keep.specs.declared.kept.KeptRun.{KeptRun}
use Rattle.pd_keep.specs.Fresh.{IsCharged}
use Rattle.pd_keep.specs.Kept.{RunData}
use Rattle.pd_keep.specs.Rerun.{Costs}
use Rattle.pd_keep.specs.Running.{running}
use Rattle.pd_keep.specs.Spans.{moves_of}
use Rattle.pd_keep.proofs.Paid.{charged_none}
use Rattle.pd_keep.proofs.kept.spans_of.Goals as goal

pub returns-in-None-clause-charge : goal.returns-in-None-clause-charge
returns-in-None-clause-charge g c =
    let plan = c.args.plan.now in
    let first = c.args.meter.now in
    let last = c.rerun-in-None.new.meter in
    IfOk-weaker c.rerun-in-None.result (λ (new : List RunData). Costs plan (moves_of c.new-none.result) plan (moves_of new) first last)
    (λ (new : List RunData). IsCharged (running g.row.N c.args.run.now) plan (moves_of new) first last)
    (λ new cost.
    let beside : Costs plan [] plan (moves_of new) first last =
    subst (λ (l : List RunData). Costs plan (moves_of l) plan (moves_of new) first last) c.new-none.ensures cost in
    subst (λ (r : Option (KeptRun g.row.N)). IsCharged (running g.row.N r) plan (moves_of new) first last) (sym c.in-None.is)
    (charged_none g.row.N plan (moves_of new) first last beside)) c.rerun-in-None.ensures.cost
