-- The test of slips finds slips alone.
use Rattle.std.proofs.Common.{◌≡◌, ℕ, ◌+◌, Bool, true, false, ◌&&◌, eqb, List, [], ◌∷◌, length, refl, sym, ap}
use Rattle.std.proofs.Common.{inl, inr, subst, arith, if◌then◌else◌, Option, Some, None, map, option_map}
use Rattle.std.proofs.lemmas.Bool.{eqb-true, or_cases}
use Rattle.std.proofs.lemmas.Slice.Eq.{bytes_eq-Decides}
use Rattle.std.specs.Prelude.{bytes_eq, find}
use Rattle.pd_hints.specs.Slips.{IsSlip, another, left_out, too_many, swapped, behind_same, is_swapped_here, is_slip_here, is_slip}

more : (x : ℕ) (xs ys : List ℕ) → IsSlip xs ys → IsSlip (x ∷ xs) (x ∷ ys)
more x _ _ (another front back y z) = another (x ∷ front) back y z
more x _ _ (left_out front back y) = left_out (x ∷ front) back y
more x _ _ (too_many front back y) = too_many (x ∷ front) back y
more x _ _ (swapped front back y z) = swapped (x ∷ front) back y z

same : (xs ys : List ℕ) → bytes_eq xs ys ≡ true → xs ≡ ys
same xs ys e = (bytes_eq-Decides xs ys).0 e

both : (a b : Bool) → (a && b) ≡ true → (a ≡ true) × (b ≡ true)
both true b e = (refl, e)
both false b e = absurd (cc)

-- one word is empty, and the other is one letter
one : (x : ℕ) (xs : List ℕ) → length xs ≡ 0 → xs ≡ []
one x [] e = refl
one x (y ∷ ys) e = absurd (omega arith)

swap : (xs ys : List ℕ) → is_swapped_here xs ys ≡ true → IsSlip xs ys
swap [] ys e = absurd (cc)
swap (x ∷ []) ys e = absurd (cc)
swap (x ∷ (x' ∷ xs)) [] e = absurd (cc)
swap (x ∷ (x' ∷ xs)) (y ∷ []) e = absurd (cc)
swap (x ∷ (x' ∷ xs)) (y ∷ (y' ∷ ys)) e =
    let (first, others) = both (eqb x y') (eqb x' y && bytes_eq xs ys) e in
    let (second, rest) = both (eqb x' y) (bytes_eq xs ys) others in
    let a : x ≡ y' = eqb-true x y' first in
    let b : x' ≡ y = eqb-true x' y second in
    let r : xs ≡ ys = same xs ys rest in
    let is : y ∷ (y' ∷ ys) ≡ x' ∷ (x ∷ xs) = cc in
    subst (λ (zs : List ℕ). IsSlip (x ∷ (x' ∷ xs)) zs) (sym is) (swapped [] xs x x')

here : (xs ys : List ℕ) → is_slip_here xs ys ≡ true → IsSlip xs ys
here [] [] e = absurd (cc)
here [] (y ∷ ys) e =
    let n : length ys ≡ 0 = omega (arith, eqb-true (0 + length (y ∷ ys)) 1 e) in
    rw (one y ys n) (left_out [] [] y)
here (x ∷ xs) [] e =
    let n : length xs ≡ 0 = omega (arith, eqb-true (length (x ∷ xs) + 0) 1 e) in
    rw (one x xs n) (too_many [] [] x)
here (x ∷ xs) (y ∷ ys) e =
    elim (or_cases (bytes_eq xs ys) _ e) [
      | inl same_rest ↦ rw (same xs ys same_rest) (another [] ys x y)
      | inr others ↦
          elim (or_cases (bytes_eq (x ∷ xs) ys) _ others) [
            | inl all ↦ rw (same (x ∷ xs) ys all) (left_out [] ys y)
            | inr fewer ↦
                elim (or_cases (bytes_eq xs (y ∷ ys)) _ fewer) [
                  | inl all ↦ rw (same xs (y ∷ ys) all) (too_many [] (y ∷ ys) x)
                  | inr turned ↦ swap (x ∷ xs) (y ∷ ys) turned
                ]
          ]
    ]

step : (x y : ℕ) (xs ys : List ℕ) (b : Bool) → eqb x y ≡ b
    → (if b then is_slip xs ys else is_slip_here (x ∷ xs) (y ∷ ys)) ≡ true
    → (is_slip xs ys ≡ true → IsSlip xs ys) → IsSlip (x ∷ xs) (y ∷ ys)
step x y xs ys true e is rest = rw (eqb-true x y e) (more y xs ys (rest is))
step x y xs ys false e is rest = here (x ∷ xs) (y ∷ ys) is

pub slips_are_slips : (xs ys : List ℕ) → is_slip xs ys ≡ true → IsSlip xs ys
unfolding is_slip
slips_are_slips [] ys e = here [] ys e
slips_are_slips (x ∷ xs) [] e = here (x ∷ xs) [] e
slips_are_slips (x ∷ xs) (y ∷ ys) e = step x y xs ys (eqb x y) refl e (slips_are_slips xs ys)

-- ---- letter by letter

same_pair : (a b c d : List ℕ) → ◌≡◌ {A = Option (List ℕ × List ℕ)} (Some (a, b)) (Some (c, d)) → is_slip c d ≡ is_slip a b
same_pair a b c d e =
    let p : (a, b) ≡ (c, d) = cc in sym (ap (λ (x : List ℕ × List ℕ). is_slip x.0 x.1) p)

next_by : (x y : ℕ) (xs ys left right : List ℕ) (b : Bool) → eqb x y ≡ b
    → ◌≡◌ {A = Option (List ℕ × List ℕ)} (Some (left, right)) (if b then Some (xs, ys) else None)
    → (if b then is_slip xs ys else is_slip_here (x ∷ xs) (y ∷ ys)) ≡ is_slip left right
next_by x y xs ys left right true e is = same_pair left right xs ys is
next_by x y xs ys left right false e is = absurd (cc)

pub next_slip : (xs ys left right : List ℕ) → ◌≡◌ {A = Option (List ℕ × List ℕ)} (Some (left, right)) (behind_same xs ys)
    → is_slip xs ys ≡ is_slip left right
unfolding is_slip
next_slip [] ys left right is = absurd (cc)
next_slip (x ∷ xs) [] left right is = absurd (cc)
next_slip (x ∷ xs) (y ∷ ys) left right is = next_by x y xs ys left right (eqb x y) refl is

last_by : (x y : ℕ) (xs ys : List ℕ) (b : Bool) → eqb x y ≡ b → ◌≡◌ {A = Option (List ℕ × List ℕ)} None (if b then Some (xs, ys) else None)
    → is_slip_here (x ∷ xs) (y ∷ ys) ≡ (if b then is_slip xs ys else is_slip_here (x ∷ xs) (y ∷ ys))
last_by x y xs ys true e is = absurd (cc)
last_by x y xs ys false e is = refl

pub last_slip : (xs ys : List ℕ) → None ≡ behind_same xs ys → is_slip_here xs ys ≡ is_slip xs ys
unfolding is_slip
last_slip [] ys is = refl
last_slip (x ∷ xs) [] is = refl
last_slip (x ∷ xs) (y ∷ ys) is = last_by x y xs ys (eqb x y) refl is

-- ---- words of a list

map_some : {X : Type 0} (f : X → List ℕ) (x : X) (xs : List X) (p : List ℕ → Bool) (b : Bool)
    → find p (map f xs) ≡ option_map f (find (λ y. p (f y)) xs)
    → (if b then Some (f x) else find p (map f xs)) ≡ option_map f (if b then Some x else find (λ y. p (f y)) xs)
map_some f x xs p true rest = refl
map_some f x xs p false rest = rest

pub find-map : {X : Type 0} (p : List ℕ → Bool) (f : X → List ℕ) (xs : List X)
    → find p (map f xs) ≡ option_map f (find (λ x. p (f x)) xs)
find-map p f [] = refl
find-map p f (x ∷ xs) = map_some f x xs p (p (f x)) (find-map p f xs)
