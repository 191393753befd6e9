use Rattle.std.proofs.Common.{List, [], length, arith, ap, ◌∙◌}
use Rattle.std.proofs.lemmas.List.{length-map}
use Rattle.std.proofs.lemmas.Result.{IfOk-weaker}
use Rattle.pd_run.specs.Live.{StandsAfter}
use Rattle.pd_run.specs.Run.{Move}
use Rattle.pd_run.specs.Start.{start_of}
use Rattle.pd_run.specs.UpTo.{IsUpTo, AreAfter}
use Rattle.pd_run.proofs.Taken.{IsUpTo-start, AreAfter-start}
use Rattle.pd_run.proofs.live.Live.new.Goals as goal

pub resume-requires : goal.resume-requires
resume-requires g c =
    let counted = ap length c.in_ok-ports.ensures ∙ length-map c.args.plan.now.settings start_of
    ∙ c.end-end.ensures.is_plan.settings_count in
    (omega arith, (omega arith, (counted, omega arith)))

pub returns : goal.returns
returns g c =
    let plan = c.args.plan.now in
    let ports = c.in_ok-ports.ports.items in
    IfOk-weaker c.resume.result (λ live. (past : List Move) → IsUpTo plan past 0 → AreAfter plan past ports → StandsAfter plan past live)
    (StandsAfter plan []) (λ live resumed. resumed [] (IsUpTo-start plan) (AreAfter-start plan ports c.in_ok-ports.ensures))
    c.resume.ensures
