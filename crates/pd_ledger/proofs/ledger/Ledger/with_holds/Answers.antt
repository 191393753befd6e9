use Rattle.std.proofs.Common.{arith}
use Rattle.pd_ledger.proofs.Sums.{sum-few}
use Rattle.pd_ledger.proofs.ledger.Ledger.with_holds.Goals as goal

pub total-requires : goal.total-requires
total-requires g c = sum-few g.row.N c.args.holds.now c.requires.few c.requires.held_count (λ k lt. omega (arith, c.type_inv.holds k))
