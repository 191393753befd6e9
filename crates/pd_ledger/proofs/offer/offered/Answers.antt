use Rattle.std.proofs.Common.{◌≡◌, ◌*◌, ◌/◌, ℕ, ◌<◌, min, ap, ◌∙◌, arith}
use Rattle.pd_ledger.proofs.Offers.{whole-offered, part-offered}
use Rattle.pd_ledger.proofs.offer.offered.Goals as goal
use Rattle.pd_ledger.proofs.offer.offered.Goals.{then-from-free, else-from-free}

pub returns : goal.returns
returns c =
    let supply = c.args.supply.now in
    let is = c.ma.ensures.is_supply in
    let some : 0 < supply.mv = omega arith in
    let most : c.min-most.result ≡ min supply.ma c.args.limit_ma = omega arith in
    let voltage : c.from.result ≡ supply.mv = omega arith in
    let times : c.from.result * c.from-2.result ≡ supply.mv * c.min-most.result =
    ap (λ (x : ℕ). x * c.from-2.result) voltage ∙ ap (λ (x : ℕ). supply.mv * x) c.from-2.ensures in
    elim c.if-from-free.branch [
      | then-from-free w ↦
          let all = whole-offered c.args.free c.args.limit_ma c.min-most.result supply some most (omega (arith, times, w.if-from-free)) in
          omega (arith, w.ma-is, all)
      | else-from-free w ↦
          let part = part-offered c.args.free c.args.limit_ma c.min-most.result supply some most (omega (arith, times, w.if-from-free)) in
          ap (λ (x : ℕ). x / 10 * 10) (w.ma-is ∙ ap (λ (x : ℕ). c.args.free / x) (w.from-else-from-free.ensures
          ∙ w.mv-else-from-free.ensures.value)) ∙ part.1
    ]
