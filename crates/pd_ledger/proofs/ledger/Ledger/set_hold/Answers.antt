use Rattle.std.proofs.Common.{refl, ◌<◌, ◌≤◌, ◌-◌, slice_index, take, arith, sym, subst}
use Rattle.std.proofs.lemmas.List.{get_or-take}
use Rattle.std.proofs.Math.Seq.{take-set-lt}
use Rattle.pd_ledger.specs.Account.{Account}
use Rattle.pd_ledger.proofs.Sums.{IsLedger-set}
use Rattle.pd_ledger.proofs.ledger.Ledger.set_hold.Goals as goal

pub invariant_of-self : goal.invariant_of-self
invariant_of-self g c =
    let lt : c.args.port - 1 < g.row.N = omega arith in
    let least = subst (λ (v : Account). slice_index v.floors (c.args.port - 1) ≤ c.args.hold) (sym c.self.view_is) c.requires.least in
    let held = get_or-take g.row.N c.self.inside.holds (c.args.port - 1) 0 lt in
    rw take-set-lt
    (IsLedger-set g.row.N c.self.inside.budget (c.args.port - 1) c.args.hold c.self.inside.total _ _ (take g.row.N c.self.inside.holds)
    c.self.invariant lt least c.ranges.hold.fits
    (omega (arith, held, c.from.ensures, c.from-2.ensures)))

pub returns : goal.returns
returns g c =
    let lt : c.args.port - 1 < g.row.N = omega arith in
    rw (← c.self.view_is, take-set-lt) refl
