use Rattle.std.proofs.Common.{◌≡◌, List, ap, sym, ◌∙◌, subst}
use Rattle.std.proofs.lemmas.Result.{IfOk-weaker}
use Rattle.pd_port.specs.Port.{PortData}
use Rattle.pd_ledger.specs.Account.{Account}
use Rattle.pd_run.specs.Held.{AreHeld}
use Rattle.pd_run.specs.Run.{Move}
use Rattle.pd_run.specs.UpTo.{AreAfter}
use Rattle.pd_keep.specs.Kept.{RunData}
use Rattle.pd_keep.proofs.kept_move.KeptMoves.shared_budget.Goals as goal

pub returns : goal.returns
returns g c =
    let plan = c.args.plan.now in
    let ports : List PortData = c.as_slice.result.now in
    let is : ports ≡ c.args.self.now.first = c.as_slice.ensures.value ∙ ap (λ (r : RunData). r.first) c.self.view_is in
    IfOk-weaker c.of_ports.result (λ (shared : Account). (past : List Move) → AreAfter plan past ports → AreHeld plan past shared)
    (λ (shared : Account). (past : List Move) → AreAfter plan past c.args.self.now.first → AreHeld plan past shared)
    (λ shared held past after. held past (subst (λ (l : List PortData). AreAfter plan past l) (sym is) after)) c.of_ports.ensures
