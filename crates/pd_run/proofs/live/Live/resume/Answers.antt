use Rattle.std.proofs.Common.{◌≡◌, List, length, max, slice_index, slice_index_or, slice_get, arith, ap, ◌∙◌}
use Rattle.pd_port.specs.Port.{PortData, due, hold}
use Rattle.pd_ledger.specs.Account.{Account}
use Rattle.pd_scenario.specs.Plan.{script_of}
use Rattle.pd_run.specs.Start.{no_port}
use Rattle.pd_run.proofs.Taken.{StandsAfter-resumed}
use Rattle.pd_run.proofs.live.Live.resume.Goals as goal

pub returns : goal.returns
returns g c = λ past up after.
    let plan = c.args.plan.now in
    let is = c.budget-budget.ensures.is_plan in
    let ports : c.as_slice.result.now ≡ c.args.ports.items = c.as_slice.ensures.value in
    let floors = c.as_slice-2.ensures.value ∙ c.in_ok-floors.ensures.floors in
    let counted : length c.as_slice.result.now ≡ g.row.N = ap length ports ∙ c.requires.count in
    let held = ap (λ (a : Account). a.holds) c.with_holds.ensures ∙ c.as_slice-6.ensures.value in
    StandsAfter-resumed g.row.N plan past c.args.at _ is c.requires.within up after (record {
      ports_count = c.requires.count;
      taken_count = c.in_ok-taken.ensures.count;
      dues_count = c.in_ok-dues.ensures.count;
      holds_count = ap length held ∙ c.in_ok-holds.ensures.count ∙ counted;
      taken_are = c.in_ok-taken.ensures.had;
      dues_are = λ p lt. c.in_ok-dues.ensures.dues p lt
          ∙ ap (λ (l : List PortData). due (slice_index_or l p no_port).port_record (slice_get (script_of plan p)
          (slice_index c.as_slice-4.result.now p))) c.as_slice-3.ensures.value
          ∙ ap (λ ts. due (slice_index_or c.args.ports.items p no_port).port_record (slice_get (script_of plan p) (slice_index ts p)))
          c.as_slice-4.ensures.value;
      floors_are = ap (λ (a : Account). a.floors) c.with_holds.ensures ∙ c.as_slice-5.ensures.value ∙ c.in_ok-floors.ensures.floors;
      holds_are = λ p lt. ap (λ hs. slice_index hs p) held ∙ c.in_ok-holds.ensures.holds p (omega arith)
          ∙ ap (λ (l : List PortData). max (slice_index c.as_slice-2.result.now p)
          (hold (slice_index_or l p no_port).settings (slice_index_or l p no_port).port_record)) ports
          ∙ ap (λ fs. max (slice_index fs p) (hold (slice_index_or c.args.ports.items p no_port).settings
          (slice_index_or c.args.ports.items p no_port).port_record)) floors;
    })
