use Rattle.std.proofs.Common.{◌+◌, ◌-◌, subst, sym, ◌∙◌}
use Rattle.pd_scenario.specs.Plan.{count}
use Rattle.pd_run.specs.Live.{IsOver}
use Rattle.pd_run.proofs.First.{first_is_next}
use Rattle.pd_run.proofs.Safe.{safe_end}
use Rattle.pd_run.proofs.live.Live.next.Goals as goal

pub returns-clause-next : goal.returns-clause-next
returns-clause-next g c =
    first_is_next c.args.plan.now c.args.self.now g.row.N c.in_ok-port.port c.in_ok-port.due.now
    c.in_ok-port.ensures.is_plan.settings_count c.in_ok-port.ensures.first

pub returns-in_err-port-clause-next : goal.returns-in_err-port-clause-next
returns-in_err-port-clause-next g c =
    let plan = c.args.plan.now in
    let is = c.in_err-port.ensures.is_plan in
    let over : IsOver plan c.args.self.now (count plan) = subst (λ n. IsOver plan c.args.self.now n) (sym is.settings_count)
    c.in_err-port.ensures.first in
    rw c.from_residual.ensures (safe_end g.row.N plan c.args.self.now is over)

pub returns-clause-in_order : goal.returns-clause-in_order
returns-clause-in_order g c = λ past stands.
    let plan = c.args.plan.now in
    let next = first_is_next plan c.args.self.now g.row.N c.in_ok-port.port c.in_ok-port.due.now c.in_ok-port.ensures.is_plan.settings_count
    c.in_ok-port.ensures.first in
    let p = c.in_ok-port.port + 1 - 1 in
    stands.runs.ahead p c.in_ok-port.due.now next.first.known (sym (stands.dues_are p next.first.known)
    ∙ next.first.is_due)
