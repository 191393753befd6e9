-- Of faults in the order of their numbers, the first that applies is the least that does. The faults of a type are told apart
-- by a number; so this serves the refusals of files and those of edits.
use Rattle.std.proofs.Common.{◌≡◌, ℕ, ◌<◌, ◌⊎◌, Bool, true, false, ◌&&◌, List, [], ◌∷◌, find, refl, sym, ap, inl, inr, arith, Some, None}
use Rattle.std.specs.Prelude.{nat_lt}
use Rattle.std.specs.List.{list_all}
use Rattle.std.proofs.lemmas.Bool.{cases_Bool, and_parts}
use Rattle.std.proofs.lemmas.Bool.Decides.{nat_tests}

abbrev pub IsIn : {X : Type 0} → X → List X → Type 0
IsIn x [] = ⊥
IsIn x (y ∷ ys) = (x ≡ y) ⊎ IsIn x ys

-- the numbers of all are above one
abbrev pub all_above : {X : Type 0} → (X → ℕ) → ℕ → List X → Bool
all_above number n xs = list_all (λ y. nat_lt n (number y)) xs

-- the numbers rise
abbrev pub rises : {X : Type 0} → (X → ℕ) → List X → Bool
rises number [] = true
rises number (x ∷ xs) = all_above number (number x) xs && rises number xs

-- one passes a test, and none of a lesser number does
abbrev pub IsFirst : {X : Type 0} → (X → ℕ) → (X → Bool) → X → Type 0
IsFirst {X} number test x = (test x ≡ true) × ((other : X) → number other < number x → test other ≡ false)

below : (a b : ℕ) → nat_lt a b ≡ true → a < b
below a b h = grind (arith, nat_tests)

above : {X : Type 0} (number : X → ℕ) (n : ℕ) (x : X) (xs : List X) → all_above number n xs ≡ true → IsIn x xs → n < number x
above number n x [] all there = absurd there
above number n x (y ∷ ys) all there =
    let (here, more) = and_parts (nat_lt n (number y)) (all_above number n ys) all in
    elim there [
      | inl same ↦ rw same (below n (number y) here)
      | inr later ↦ above number n x ys more later
    ]

-- what is found among all that can pass, in the order of their numbers, is the first
pub least : {X : Type 0} (number : X → ℕ) (test : X → Bool) (xs : List X) (x : X) → rises number xs ≡ true
    → ((other : X) → (test other ≡ false) ⊎ IsIn other xs) → find test xs ≡ Some x → IsFirst number test x
least number test [] x rising left h = absurd (cc)
least number test (y ∷ ys) x rising left h =
    let (after, more) = and_parts (all_above number (number y) ys) (rises number ys) rising in
    elim (cases_Bool (test y)) [
      | inl chosen ↦
          let e : Some y ≡ Some x = rw chosen at h in
          let same : y ≡ x = cc in
          rw (← same) (
            chosen,
            λ other less.
                elim (left other) [
                  | inl passes ↦ passes
                  | inr there ↦
                      elim there [
                        | inl here ↦ let equal = ap number here in absurd (omega (arith, equal, less))
                        | inr later ↦ let greater = above number (number y) other ys after later in absurd (omega (arith, greater, less))
                      ]
                ],
          )
      | inr passed ↦
          least number test ys x more
          (λ other.
          elim (left other) [
            | inl passes ↦ inl passes
            | inr there ↦ elim there [ inl here ↦ inl (rw here passed) | inr later ↦ inr later ]
          ])
          (rw passed at h)
    ]

-- and the first of them is found
pub found : {X : Type 0} (number : X → ℕ) (test : X → Bool) (xs : List X) (x : X) → rises number xs ≡ true → IsIn x xs
    → IsFirst number test x → find test xs ≡ Some x
found number test [] x rising there first = absurd there
found {X} number test (y ∷ ys) x rising there first =
    let (after, more) = and_parts (all_above number (number y) ys) (rises number ys) rising in
    elim there [
      | inl here ↦ let chosen : test y ≡ true = rw here at first.0 in rw chosen (ap (λ (z : X). Some z) (sym here))
      | inr later ↦
          let passed : test y ≡ false = first.1 y (above number (number y) x ys after later) in
          rw passed (found number test ys x more later first)
    ]

-- where none is found, none of them passes
pub passed_all : {X : Type 0} (test : X → Bool) (xs : List X) (x : X) → find test xs ≡ None → IsIn x xs → test x ≡ false
passed_all test [] x none there = absurd there
passed_all test (y ∷ ys) x none there =
    elim (cases_Bool (test y)) [
      | inl chosen ↦ let e : Some y ≡ None = rw chosen at none in absurd (cc)
      | inr passed ↦
          let rest : find test ys ≡ None = rw passed at none in
          elim there [ inl here ↦ rw here passed | inr later ↦ passed_all test ys x rest later ]
    ]

pub none_found : {X : Type 0} (test : X → Bool) (xs : List X) → ((x : X) → test x ≡ false) → find test xs ≡ None
none_found test [] passes = refl
none_found test (y ∷ ys) passes = rw (passes y) (none_found test ys passes)
