-- Facts on bounds.
use Rattle.std.proofs.Common.{◌≡◌, ◌==◌, ℕ, ◌≤◌, ◌/◌, ◌*◌, ◌⊎◌, min, true, inl, inr, arith}
use Rattle.std.proofs.lemmas.Bool.Decides.{nat_tests}
use Rattle.pd_objects.specs.Supply.{SupplyData}
use Rattle.pd_ledger.specs.Offer.{offered}
use Rattle.pd_why.specs.declared.bound.Bounds.{Bounds}
use Rattle.pd_why.specs.declared.bound.Bound.{Bound}
use Rattle.pd_why.specs.declared.bound.Bound.TheVariants.{Configured, Cable, Free}
use Rattle.pd_why.specs.Bounds.{NamesTheLeast, allowed, bounds_of}

rounded_least : (a b c : ℕ) → (min (min a b) c / 10 * 10 ≤ a / 10 * 10) × (min (min a b) c / 10 * 10 ≤ b / 10 * 10)
    × (min (min a b) c / 10 * 10 ≤ c / 10 * 10)
rounded_least a b c = (omega arith, omega arith, omega arith)

rounded_one : (a b c : ℕ) → (a / 10 * 10 ≡ min (min a b) c / 10 * 10) ⊎ ((b / 10 * 10 ≡ min (min a b) c / 10 * 10)
    ⊎ (c / 10 * 10 ≡ min (min a b) c / 10 * 10))
rounded_one a b c = grind arith

is_named : (a m : ℕ) → a ≡ m → (a == m) ≡ true
is_named a m e = grind (arith, nat_tests)

named_is : (a m : ℕ) → (a == m) ≡ true → a ≡ m
named_is a m e = grind (arith, nat_tests)

-- the least bound, of three that are rounded down
pub least_named : (free limit_ma : ℕ) (s : SupplyData) → NamesTheLeast (bounds_of free limit_ma s (offered free limit_ma s))
unfolding offered
least_named free limit_ma s =
    let b : Bounds = bounds_of free limit_ma s (offered free limit_ma s) in
    let below = rounded_least s.ma limit_ma (free / s.mv) in
    let least : (other : Bound) → b.offered_ma ≤ allowed b other =
    λ other. elim other as (λ w. b.offered_ma ≤ allowed b w) [ Configured ↦ below.0 | Cable ↦ below.1 | Free ↦ below.2 ] in
    record {
      one = elim (rounded_one s.ma limit_ma (free / s.mv)) [
        | inl e ↦ (Configured, is_named _ _ e)
        | inr f ↦ elim f [ inl e ↦ (Cable, is_named _ _ e) | inr e ↦ (Free, is_named _ _ e) ]
      ];
      least = λ which other e. let same = named_is (allowed b which) b.offered_ma e in let low = least other in omega arith;
      all = λ which low. is_named (allowed b which) b.offered_ma (elim (rounded_one s.ma limit_ma (free / s.mv)) [
        | inl e ↦ let high = low Configured in let floor = least which in omega arith
        | inr f ↦ elim f [
          | inl e ↦ let high = low Cable in let floor = least which in omega arith
          | inr e ↦ let high = low Free in let floor = least which in omega arith
        ]
      ]);
    }
