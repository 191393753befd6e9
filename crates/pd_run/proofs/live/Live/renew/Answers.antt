use Rattle.std.proofs.Common.{◌-◌, ◌<◌, arith, ap, sym, ◌∙◌, subst, slice_index}
use Rattle.pd_port.specs.Port.{PortData, hold}
use Rattle.pd_run.specs.Live.{LiveData, HasMovedBeside, port_at}
use Rattle.pd_run.proofs.Steps.{taken_few, beside_fits}
use Rattle.pd_run.proofs.live.Live.renew.Goals as goal

pub taken_after-taken-requires : goal.taken_after-taken-requires
taken_after-taken-requires g c = λ is.
    let p = c.args.port - 1 in
    let past = c.requires.moved.0 in
    let whole = c.requires.moved.1 in
    let hm = c.requires.moved.3 in
    let next = hm.next.next in
    let few = taken_few g.row.N c.args.plan.now past whole p c.args.due.now c.requires.plan hm.next.stood next.first.known
    next.first.is_due is in
    let same = ap (λ (l : LiveData). slice_index l.taken p) hm.moved ∙ ap (λ ts. slice_index ts p) hm.next.taken_is in
    omega (arith, c.had.ensures)

pub set_hold-requires : goal.set_hold-requires
set_hold-requires g c =
    let past = c.requires.moved.0 in
    let whole = c.requires.moved.1 in
    let before = c.requires.moved.2 in
    let hm = c.requires.moved.3 in
    let live : LiveData = record {
      ports = c.self.inside.ports.items;
      taken = c.self.inside.taken.items;
      dues = c.self.inside.dues.items;
      account = c.self.inside.ledger;
    } in
    let moved =
    subst (λ (l : LiveData). HasMovedBeside c.args.plan.now past whole before c.args.port c.args.due.now l) (sym c.self.view_is) hm in
    let held = c.hold-hold.ensures
    ∙ ap (λ (x : PortData). hold x.settings x.port_record)
    (c.shared.ensures ∙ ap (λ (l : LiveData). port_at l (c.args.port - 1)) (sym c.self.view_is)) in
    let first = hm.next.next in
    let known : c.args.port - 1 < g.row.N = omega (arith, c.requires.plan.settings_count, first.first.known) in
    let fits = beside_fits c.args.plan.now past whole before c.args.port c.args.due.now live c.hold-hold.result moved
    (omega (arith, c.self.invariant.ports_count, known)) held in
    (omega arith, (first.from_one, (omega (arith, c.requires.plan.settings_count, first.first.known), fits)))
