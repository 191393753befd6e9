-- A port's hold beside the holds of the lower ports and the floors of the higher ports.
use Rattle.std.proofs.Common.{
  ◌≡◌,
  ℕ,
  zero,
  suc,
  ◌+◌,
  ◌<◌,
  ◌≤◌,
  ◌^◌,
  List,
  [],
  ◌∷◌,
  length,
  sum,
  take,
  drop,
  slice_index,
  ap,
  ◌∙◌,
  sym,
  arith,
}
use Rattle.std.proofs.lemmas.List.Sums.{sum_by-cons, sum_by-drop_more}
use Rattle.pd_ledger.specs.Account.{IsLedger}
use Rattle.pd_ledger.proofs.Sums.{sum-few}

-- a list none of whose numbers is above the other list's at its place
abbrev NoneAbove : List ℕ → List ℕ → Type 0
NoneAbove fs hs = (k : ℕ) → k < length fs → slice_index fs k ≤ slice_index hs k

tail_below : (f h : ℕ) (fs hs : List ℕ) → NoneAbove (f ∷ fs) (h ∷ hs) → NoneAbove fs hs
tail_below f h fs hs below k lt = below (suc k) (omega arith)

sum-cons : (x : ℕ) (xs : List ℕ) → sum (x ∷ xs) ≡ x + sum xs
sum-cons x xs = sum_by-cons (λ n. n) x xs

-- the first numbers of one list and the others of a list that is nowhere above it
parts_below : (p : ℕ) (fs hs : List ℕ) → length fs ≡ length hs → NoneAbove fs hs → sum (take p hs) + sum (drop p fs) ≤ sum hs
parts_below zero [] hs len below = omega arith
parts_below zero (f ∷ fs) [] len below = absurd (omega arith)
parts_below zero (f ∷ fs) (h ∷ hs) len below =
    let head : f ≤ h = below 0 (omega arith) in
    let rest : 0 + sum fs ≤ sum hs = parts_below zero fs hs (omega arith) (tail_below f h fs hs below) in
    let both : 0 + sum (f ∷ fs) ≤ sum (h ∷ hs) = omega (arith, sum-cons f fs, sum-cons h hs) in
    both
parts_below (suc p) [] [] len below = omega arith
parts_below (suc p) [] (h ∷ hs) len below = absurd (omega arith)
parts_below (suc p) (f ∷ fs) [] len below = absurd (omega arith)
parts_below (suc p) (f ∷ fs) (h ∷ hs) len below =
    let rest : sum (take p hs) + sum (drop p fs) ≤ sum hs = parts_below p fs hs (omega arith) (tail_below f h fs hs below) in
    omega (arith, sum-cons h hs, sum-cons h (take p hs))

-- without the floor of the port itself
pub others_few : (n b p t : ℕ) (fs hs : List ℕ) → IsLedger n b fs hs t → p < n → sum (take p hs) + sum (drop (suc p) fs) < 2 ^ 67
others_few n b p t fs hs kept lt =
    let parts = parts_below p fs hs (kept.floors_count ∙ sym kept.holds_count)
    (λ k less. kept.floored k (omega (arith, kept.floors_count))) in
    let own : sum (drop p fs) ≡ slice_index fs p + sum (drop (p + 1) fs) =
    sum_by-drop_more (λ n. n) fs p 0 (omega (arith, kept.floors_count)) in
    let next : sum (drop (p + 1) fs) ≡ sum (drop (suc p) fs) = ap (λ (k : ℕ). sum (drop k fs)) (let e : p + 1 ≡ suc p = omega arith in e) in
    let few = sum-few n hs kept.few kept.holds_count kept.small in
    omega (arith, parts, own, next, few)
