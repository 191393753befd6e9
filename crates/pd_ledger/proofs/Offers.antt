-- Offers are within what is free, and the greatest that are.
use Rattle.std.proofs.Common.{
  ◌≡◌,
  ℕ,
  ◌*◌,
  ◌/◌,
  ◌<◌,
  ◌≤◌,
  min,
  ⊎_elim,
  List,
  [],
  ◌∷◌,
  Option,
  Some,
  None,
  option_map,
  map,
  nat_le,
  refl,
  arith,
}
use Rattle.std.proofs.lemmas.Bool.{cases_lt}
use Rattle.std.proofs.Math.Nat.{mul-div-le, le-div_iff_mul-le, mul_comm, mul-le-mul_left}
use Rattle.pd_objects.specs.Supply.{SupplyData, IsSupply}
use Rattle.pd_objects.specs.Answers.{IsAllowed, AreWithin}
use Rattle.pd_objects.specs.declared.query.Query.{Query}
use Rattle.pd_objects.specs.declared.query.Query.TheVariants as query
use Rattle.pd_ledger.specs.Account.{Account, free_of, total_with}
use Rattle.pd_ledger.specs.Offer.{offered, answer_of}
use Rattle.pd_ledger.specs.Laws.{IsOffered}

-- a current within what the power gives is within the power
times_quotient : (free mv ma : ℕ) → ma ≤ free / mv → mv * ma ≤ free
times_quotient free mv ma h = let quotient = mul-div-le free mv in let times = mul-le-mul_left mv h in omega (arith, times)

pub offered-within : (free limit_ma : ℕ) (s : SupplyData) → s.mv * offered free limit_ma s ≤ free
unfolding offered
offered-within free limit_ma s = times_quotient free s.mv _ (omega arith)

are_within : (free limit_ma : ℕ) (supplies : List SupplyData) → AreWithin free supplies (map (offered free limit_ma) supplies)
are_within free limit_ma [] = tt
are_within free limit_ma (s ∷ rest) = (offered-within free limit_ma s, are_within free limit_ma rest)

-- what is answered is allowed
pub answer-allowed : (a : Account) (p : ℕ) (query : Option Query) → IsAllowed (free_of a p) query (option_map (answer_of a p) query)
answer-allowed a p None = refl
answer-allowed a p (Some (query.Offer supplies limit_ma)) =
    (map (offered (free_of a p) limit_ma) supplies.items, are_within (free_of a p) limit_ma supplies.items, refl)
answer-allowed a p (Some (query.Fits power)) = refl
answer-allowed a p (Some (query.Keep power)) = (nat_le (total_with a p power) a.budget, refl)

-- a current within the power is within what the power gives
in_quotient : (free mv ma : ℕ) → 0 < mv → mv * ma ≤ free → ma ≤ free / mv
in_quotient free mv ma some h = let times = mul_comm mv ma in (le-div_iff_mul-le some).1 (omega arith)

pub offered-greatest : (free limit_ma : ℕ) (s : SupplyData) → IsSupply s → IsOffered free limit_ma s (offered free limit_ma s)
unfolding offered
offered-greatest free limit_ma s is = record {
  steps = omega arith;
  in_supply = omega arith;
  in_cable = omega arith;
  in_free = times_quotient free s.mv _ (omega arith);
  greatest = λ more steps in_supply in_cable in_free. let quotient = in_quotient free s.mv more (omega arith) in_free in omega arith;
}

pub offered-some : (free limit_ma : ℕ) (s : SupplyData) → IsSupply s → 500000 ≤ free → 10 ≤ limit_ma → 10 ≤ offered free limit_ma s
unfolding offered
offered-some free limit_ma s is half_a_watt some = let quotient = in_quotient free s.mv 10 (omega arith) (omega arith) in omega arith

-- where all that supply and cable give is free, that is offered
pub whole-offered : (free limit_ma most : ℕ) (s : SupplyData) → 0 < s.mv → most ≡ min s.ma limit_ma → s.mv * most ≤ free
    → most / 10 * 10 ≡ offered free limit_ma s
unfolding offered
whole-offered free limit_ma most s some is all = let quotient = in_quotient free s.mv most some all in omega arith

-- elsewhere the current that the free power gives, which is less
pub part-offered : (free limit_ma most : ℕ) (s : SupplyData) → 0 < s.mv → most ≡ min s.ma limit_ma → free < s.mv * most
    → (free / s.mv < most) × (free / s.mv / 10 * 10 ≡ offered free limit_ma s)
unfolding offered
part-offered free limit_ma most s some is less =
    let small : free / s.mv < most =
    ⊎_elim (λ (lt : free / s.mv < most). lt)
    (λ (le : most ≤ free / s.mv). let times = times_quotient free s.mv most le in absurd (omega arith))
    (cases_lt (free / s.mv) most) in
    (small, omega arith)
