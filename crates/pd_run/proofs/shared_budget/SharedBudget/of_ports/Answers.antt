use Rattle.std.proofs.Common.{◌≡◌, ℕ, List, max, slice_index, slice_index_or, ap, ◌∙◌, arith}
use Rattle.pd_port.specs.Port.{hold}
use Rattle.pd_ledger.specs.Account.{Account}
use Rattle.pd_scenario.specs.Plan.{floors_of}
use Rattle.pd_run.specs.Start.{no_port}
use Rattle.pd_run.proofs.Taken.{holds_resumed}
use Rattle.pd_run.proofs.shared_budget.SharedBudget.of_ports.Goals as goal

pub returns : goal.returns
returns g c = λ past after.
    let plan = c.args.plan.now in
    let is = c.budget-budget.ensures.is_plan in
    let floors : c.as_slice.result.now ≡ floors_of plan = c.as_slice.ensures.value ∙ c.in_ok-floors.ensures.floors in
    let floored : c.as_slice-2.result.now ≡ floors_of plan = c.as_slice-2.ensures.value ∙ c.in_ok-floors.ensures.floors in
    let held = ap (λ (a : Account). a.holds) c.with_holds.ensures ∙ c.as_slice-3.ensures.value in
    record {
      floors = ap (λ (a : Account). a.floors) c.with_holds.ensures ∙ floored;
      holds = held ∙ holds_resumed g.row.N plan past c.args.ports.now c.in_ok-holds.holds.items is.settings_count
          (c.in_ok-holds.ensures.count ∙ c.requires) after
          (λ p lt. c.in_ok-holds.ensures.holds p (omega (arith, c.requires))
          ∙ ap (λ (fs : List ℕ). max (slice_index fs p) (hold (slice_index_or c.args.ports.now p no_port).settings
          (slice_index_or c.args.ports.now p no_port).port_record)) floors);
    }
