use Rattle.std.proofs.Common.{◌≡◌, ◌≢◌, ⊎_elim, ℕ, ◌+◌, ◌-◌, ◌<◌, ◌≤◌, ◌^◌, List, length, sum, slice_index, slice_set, arith, ◌∙◌}
use Rattle.std.proofs.lemmas.List.Sums.{sum_by-set, sum_by-le}
use Rattle.std.proofs.lemmas.List.{get_or_default, get_or-set_same, get_or-set_other, length-set}
use Rattle.std.proofs.lemmas.Bool.{cases_eq}
use Rattle.pd_ledger.specs.Account.{IsLedger, Account, free_of}

-- the sum after a write
pub sum-set : (xs : List ℕ) (p y : ℕ) → p < length xs → sum (slice_set xs p y) + slice_index xs p ≡ sum xs + y
sum-set xs p y h = sum_by-set (λ n. n) xs p y 0 h

floored-set : (n p h : ℕ) (fs hs : List ℕ) → ((k : ℕ) → k < n → slice_index fs k ≤ slice_index hs k) → length hs ≡ n → p < n
    → slice_index fs p ≤ h → (k : ℕ) → k < n → slice_index fs k ≤ slice_index (slice_set hs p h) k
floored-set n p h fs hs old len lt low k kn =
    ⊎_elim (λ (e : k ≡ p). let at : p < length hs = omega arith in rw (e, get_or-set_same) low)
    (λ (ne : k ≢ p). rw get_or-set_other (old k kn)) (cases_eq k p)

-- numbers below a bound, of which there are few, add to no more than they could
pub sum-few : (n : ℕ) (xs : List ℕ) → n ≤ 8 → length xs ≡ n → ((k : ℕ) → k < n → slice_index xs k < 2 ^ 64) → sum xs < 2 ^ 67
sum-few n xs few count small =
    let all = sum_by-le (λ x. x) (2 ^ 64 - 1) xs (λ k d lt. let e = get_or_default xs k d 0 lt in let b =
    small k (omega arith) in omega arith) in
    omega arith

small-set : (n p h : ℕ) (hs : List ℕ) → ((k : ℕ) → k < n → slice_index hs k < 2 ^ 64) → length hs ≡ n → p < n → h < 2 ^ 64 → (k : ℕ)
    → k < n → slice_index (slice_set hs p h) k < 2 ^ 64
small-set n p h hs old len lt small k kn =
    ⊎_elim (λ (e : k ≡ p). let at : p < length hs = omega arith in rw (e, get_or-set_same) small)
    (λ (ne : k ≢ p). rw get_or-set_other (old k kn)) (cases_eq k p)

-- the account after a write
pub IsLedger-set : (n b p h t u : ℕ) (fs hs : List ℕ) → IsLedger n b fs hs t → p < n → slice_index fs p ≤ h → h < 2 ^ 64
    → u ≡ t - slice_index hs p + h → IsLedger n b fs (slice_set hs p h) u
IsLedger-set n b p h t u fs hs kept lt low small is =
    let inside : p < length hs = omega (arith, kept.holds_count) in
    let to_zero = sum-set hs p 0 inside in
    let to_hold = sum-set hs p h inside in
    record {
      few = kept.few;
      floors_count = kept.floors_count;
      holds_count = length-set hs p h ∙ kept.holds_count;
      half_a_watt = kept.half_a_watt;
      floored = floored-set n p h fs hs kept.floored kept.holds_count lt low;
      funded = kept.funded;
      totalled = omega (arith, kept.totalled, is);
      small = small-set n p h hs kept.small kept.holds_count lt small;
    }

-- a hold above the floor that is free leaves the holds within the budget
pub free-fits : (a : Account) (p hold : ℕ) → p < length a.holds → slice_index a.floors p < hold → hold ≤ free_of a p
    → sum (slice_set a.holds p hold) ≤ a.budget
free-fits a p hold lt above free =
    let to_zero = sum-set a.holds p 0 lt in
    let to_hold = sum-set a.holds p hold lt in
    omega arith
