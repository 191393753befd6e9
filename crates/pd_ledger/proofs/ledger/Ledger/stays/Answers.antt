use Rattle.std.proofs.Common.{◌≡◌, ℕ, suc, ◌+◌, ◌-◌, ◌<◌, ◌≤◌, ◌^◌, List, sum, take, drop, nat_le, ap, sym, ◌∙◌, arith}
use Rattle.std.proofs.Math.Seq.{take-take}
use Rattle.std.proofs.lemmas.List.{drop-take}
use Rattle.pd_ledger.specs.Account.{IsLedger}
use Rattle.pd_ledger.proofs.Stays.{others_few}
use Rattle.pd_ledger.proofs.ledger.Ledger.stays.Goals as goal

-- the first places of the array are those of the account
lower_is : (n p : ℕ) (hs : List ℕ) → p ≤ n → take p hs ≡ take p (take n hs)
lower_is n p hs le = sym (take-take p n hs le)

-- and so are the places after the port's
higher_is : (n port : ℕ) (fs : List ℕ) → 1 ≤ port → port ≤ n → take (n - port) (drop port fs) ≡ drop (suc (port - 1)) (take n fs)
higher_is n port fs from_one le =
    let up : port + (n - port) ≡ n = omega arith in
    let next : port ≡ suc (port - 1) = omega arith in
    sym (drop-take port (n - port) fs) ∙ ap (λ (m : ℕ). drop port (take m fs)) up ∙ ap (λ (m : ℕ). drop m (take n fs)) next

-- Together they are the others of the account, and few.
record Parts (n port : ℕ) (fs hs : List ℕ) : Type 0 where
  few : sum (take (port - 1) hs) + sum (take (n - port) (drop port fs)) < 2 ^ 67
  is : sum (take (port - 1) hs) + sum (take (n - port) (drop port fs)) ≡ sum (take (port - 1) (take n hs)) + sum
      (drop (suc (port - 1)) (take n fs))

parts : (n b port t : ℕ) (fs hs : List ℕ) → IsLedger n b (take n fs) (take n hs) t → 1 ≤ port → port ≤ n → Parts n port fs hs
parts n b port t fs hs kept from_one le =
    let others = others_few n b (port - 1) t (take n fs) (take n hs) kept (omega arith) in
    let lower : sum (take (port - 1) hs) ≡ sum (take (port - 1) (take n hs)) = ap sum (lower_is n (port - 1) hs (omega arith)) in
    let higher : sum (take (n - port) (drop port fs)) ≡ sum (drop (suc (port - 1)) (take n fs)) =
    ap sum (higher_is n port fs from_one le) in
    record { few = omega (arith, others, lower, higher); is = omega (arith, lower, higher) }

few : (n b port t : ℕ) (fs hs : List ℕ) (lower higher : ℕ) → IsLedger n b (take n fs) (take n hs) t → 1 ≤ port → port ≤ n
    → lower ≡ sum (take (port - 1) hs) → higher ≡ sum (take (n - port) (drop port fs)) → lower + higher < 2 ^ 67
few n b port t fs hs lower higher kept from_one le is_lower is_higher =
    let p = (parts n b port t fs hs kept from_one le).few in omega arith

pub total-lower-requires : goal.total-lower-requires
total-lower-requires g c =
    omega (
      arith,
      (parts g.row.N c.self.inside.budget c.args.port c.self.inside.total c.self.inside.floors c.self.inside.holds
          c.self.invariant c.requires.first c.requires.last).few,
    )

pub total-higher-requires : goal.total-higher-requires
total-higher-requires g c =
    omega (
      arith,
      (parts g.row.N c.self.inside.budget c.args.port c.self.inside.total c.self.inside.floors c.self.inside.holds
          c.self.invariant c.requires.first c.requires.last).few,
    )

pub overflow_add-result : goal.overflow_add-result
overflow_add-result g c =
    let h = few g.row.N c.self.inside.budget c.args.port c.self.inside.total c.self.inside.floors c.self.inside.holds _ _ c.self.invariant
    c.requires.first c.requires.last c.total-lower.ensures c.total-higher.ensures in
    omega arith

pub overflow_add-result-2 : goal.overflow_add-result-2
overflow_add-result-2 g c =
    let h = few g.row.N c.self.inside.budget c.args.port c.self.inside.total c.self.inside.floors c.self.inside.holds _ _ c.self.invariant
    c.requires.first c.requires.last c.total-lower.ensures c.total-higher.ensures in
    let small = c.ranges.power.fits in
    omega (arith, c.from.ensures)

pub returns : goal.returns
returns g c =
    let p = parts g.row.N c.self.inside.budget c.args.port c.self.inside.total c.self.inside.floors c.self.inside.holds c.self.invariant
    c.requires.first c.requires.last in
    let all : c.from.result + (c.total-lower.result + c.total-higher.result) ≡ c.args.power
    + (sum (take (c.args.port - 1) (take g.row.N c.self.inside.holds)) + sum
    (drop (suc (c.args.port - 1)) (take g.row.N c.self.inside.floors))) =
    omega (arith, p.is, c.from.ensures, c.total-lower.ensures, c.total-higher.ensures) in
    rw (← c.self.view_is) (ap (λ (o : ℕ). nat_le o c.from-2.result) all
    ∙ ap (λ (b : ℕ). nat_le (c.args.power + (sum (take (c.args.port - 1) (take g.row.N c.self.inside.holds)) + sum
    (drop (suc (c.args.port - 1)) (take g.row.N c.self.inside.floors)))) b) c.from-2.ensures)
