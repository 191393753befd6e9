-- Tests that hold for each element of a list.
use Rattle.std.proofs.Common.{◌≡◌, ◌≤◌, Bool, true, false, List, [], ◌∷◌, ◌++◌, filter, length, refl, inl, inr, arith}
use Rattle.std.specs.List.{list_any, list_all}
use Rattle.std.proofs.lemmas.Bool.{cases_Bool, and_parts, or_parts}

pub list_all-filter : {X : Type 0} (p q : X → Bool) (xs : List X) → list_all p xs ≡ true → list_all p (filter q xs) ≡ true
list_all-filter p q [] h = refl
list_all-filter p q (x ∷ xs) h =
    let (here, more) = and_parts (p x) (list_all p xs) h in
    elim (cases_Bool (q x)) [
      | inl kept ↦ rw (kept, here, list_all-filter p q xs more)
      | inr gone ↦ rw gone (list_all-filter p q xs more)
    ]

pub list_any-filter : {X : Type 0} (p q : X → Bool) (xs : List X) → list_any p xs ≡ false → list_any p (filter q xs) ≡ false
list_any-filter p q [] h = refl
list_any-filter p q (x ∷ xs) h =
    let (here, more) = or_parts (p x) (list_any p xs) h in
    elim (cases_Bool (q x)) [
      | inl kept ↦ rw (kept, here, list_any-filter p q xs more)
      | inr gone ↦ rw gone (list_any-filter p q xs more)
    ]

pub length-filter-le : {X : Type 0} (q : X → Bool) (xs : List X) → length (filter q xs) ≤ length xs
length-filter-le q [] = omega arith
length-filter-le q (x ∷ xs) =
    let rest = length-filter-le q xs in
    elim (cases_Bool (q x)) [
      | inl kept ↦ rw kept (omega arith)
      | inr gone ↦ rw gone (omega arith)
    ]

pub list_all-last : {X : Type 0} (p : X → Bool) (xs : List X) (x : X) → list_all p xs ≡ true → p x ≡ true → list_all p (xs ++ x ∷ []) ≡ true
list_all-last p [] x h here = rw here
list_all-last p (y ∷ ys) x h here =
    let (first, more) = and_parts (p y) (list_all p ys) h in
    rw (first, list_all-last p ys x more here)

pub list_all-implies : {X : Type 0} (p q : X → Bool) → ((x : X) → p x ≡ true → q x ≡ true) → (xs : List X) → list_all p xs ≡ true
    → list_all q xs ≡ true
list_all-implies p q step [] h = refl
list_all-implies p q step (x ∷ xs) h =
    let (first, more) = and_parts (p x) (list_all p xs) h in
    rw (step x first, list_all-implies p q step xs more)

-- the same of the elements of which another test doesn't hold
pub list_all-without : {X : Type 0} (p q r : X → Bool) → ((x : X) → r x ≡ false → p x ≡ true → q x ≡ true) → (xs : List X)
    → list_any r xs ≡ false → list_all p xs ≡ true
    → list_all q xs ≡ true
list_all-without p q r step [] none h = refl
list_all-without p q r step (x ∷ xs) none h =
    let (other, others) = or_parts (r x) (list_any r xs) none in
    let (first, more) = and_parts (p x) (list_all p xs) h in
    rw (step x other first, list_all-without p q r step xs others more)
