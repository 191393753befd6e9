-- What a list contains, and what is left of it by a call that gives nothing for some.
use Rattle.std.proofs.Common.{◌≡◌, ℕ, zero, suc, ◌<◌, ◌≤◌, ◌+◌, ◌⊎◌, Bool, true, List, [], ◌∷◌, ◌++◌, length, get_or, take, refl, sym, ap}
use Rattle.std.proofs.Common.{◌∙◌, inl, inr, arith, Some, None}
use Rattle.std.specs.Prelude.{Option, Contains, min, fold}
use Rattle.std.specs.List.{filter_map, cons_option, list_all}
use Rattle.std.specs.Option.{option_to_list}
use Rattle.std.proofs.lemmas.Bool.{and_parts}
use Rattle.std.proofs.lemmas.List.{take_more}
use Rattle.std.proofs.lemmas.List.Elements.{filter_map-append}

pub here : {X : Type 0} (x : X) (xs : List X) → Contains (x ∷ xs) x
here x xs = (0, omega arith, refl)

pub here_is : {X : Type 0} (x y : X) (xs : List X) → x ≡ y → Contains (x ∷ xs) y
here_is x y xs is = (0, omega arith, is)

pub there : {X : Type 0} (x y : X) (xs : List X) → Contains xs y → Contains (x ∷ xs) y
there x y xs h = (suc h.0, omega (arith, h.1), h.2)

at_place : {X : Type 0} (x y : X) (xs : List X) (k : ℕ) → k < length (x ∷ xs) → get_or (x ∷ xs) k y ≡ y → (x ≡ y) ⊎ Contains xs y
at_place x y xs zero below is = inl is
at_place x y xs (suc k) below is = inr (k, omega arith, is)

pub cases : {X : Type 0} (x y : X) (xs : List X) → Contains (x ∷ xs) y → (x ≡ y) ⊎ Contains xs y
cases x y xs h = at_place x y xs h.0 h.1 h.2

pub none : {X : Type 0} (y : X) → Contains [] y → ⊥
none y h = let below = h.1 in omega arith

-- what all elements pass, each passes
pub passes : {X : Type 0} (p : X → Bool) (xs : List X) (x : X) → list_all p xs ≡ true → Contains xs x → p x ≡ true
passes p [] x h at = absurd (none x at)
passes p (y ∷ ys) x h at =
    let (first, more) = and_parts (p y) (list_all p ys) h in
    elim (cases y x ys at) [
      | inl same ↦ rw (← same) first
      | inr later ↦ passes p ys x more later
    ]

-- where an element of what is left comes from
pub record From {X Y : Type 0} (f : X → Option Y) (xs : List X) (y : Y) : Type 0 where
  pub of : X
  pub there : Contains xs of
  pub is : f of ≡ Some y

from_later : {X Y : Type 0} (f : X → Option Y) (x : X) (xs : List X) (y : Y) → From f xs y → From f (x ∷ xs) y
from_later f x xs y h = record { of = h.of; there = there x h.of xs h.there; is = h.is }

from_first : {X Y : Type 0} (f : X → Option Y) (x : X) (xs : List X) (o : Option Y) (y : Y) → f x ≡ o
    → (Contains (filter_map f xs) y → From f xs y) → Contains (cons_option o (filter_map f xs)) y
    → From f (x ∷ xs) y
from_first f x xs None y is rest h = from_later f x xs y (rest h)
from_first f x xs (Some z) y is rest h =
    elim (cases z y (filter_map f xs) h) [
      | inl same ↦ record { of = x; there = here x xs; is = rw (← same) is }
      | inr later ↦ from_later f x xs y (rest later)
    ]

pub filter_map_from : {X Y : Type 0} (f : X → Option Y) (xs : List X) (y : Y) → Contains (filter_map f xs) y → From f xs y
filter_map_from f [] y h = absurd (none y h)
filter_map_from f (x ∷ xs) y h = from_first f x xs (f x) y refl (filter_map_from f xs y) h

later_too : {Y : Type 0} (o : Option Y) (ys : List Y) (y : Y) → Contains ys y → Contains (cons_option o ys) y
later_too None ys y h = h
later_too (Some z) ys y h = there z y ys h

first_too : {Y : Type 0} (o : Option Y) (ys : List Y) (y : Y) → o ≡ Some y → Contains (cons_option o ys) y
first_too o ys y is = rw is (here y ys)

pub filter_map_has : {X Y : Type 0} (f : X → Option Y) (xs : List X) (x : X) (y : Y) → Contains xs x → f x ≡ Some y
    → Contains (filter_map f xs) y
filter_map_has f [] x y h is = absurd (none x h)
filter_map_has f (z ∷ zs) x y h is =
    elim (cases z x zs h) [
      | inl same ↦ first_too (f z) (filter_map f zs) y (rw same is)
      | inr later ↦ later_too (f z) (filter_map f zs) y (filter_map_has f zs x y later is)
    ]

length_of : {Y : Type 0} (o : Option Y) (ys : List Y) → length (cons_option o ys) ≤ length ys + 1
length_of None ys = omega arith
length_of (Some y) ys = omega arith

pub length-filter_map : {X Y : Type 0} (f : X → Option Y) (xs : List X) → length (filter_map f xs) ≤ length xs
length-filter_map f [] = omega arith
length-filter_map f (x ∷ xs) =
    let first = length_of (f x) (filter_map f xs) in
    let rest = length-filter_map f xs in
    omega arith

-- the least of a number and some others
pub least_first : (xs : List ℕ) (m : ℕ) → fold min m xs ≤ m
least_first [] m = omega arith
least_first (x ∷ xs) m = let rest = least_first xs (min m x) in omega arith

pub least_of : (xs : List ℕ) (m x : ℕ) → Contains xs x → fold min m xs ≤ x
least_of [] m x h = absurd (none x h)
least_of (y ∷ ys) m x h =
    elim (cases y x ys h) [
      | inl same ↦ let rest = least_first ys (min m y) in omega arith
      | inr later ↦ least_of ys (min m y) x later
    ]

one : {Y : Type 0} (o : Option Y) → cons_option o [] ≡ option_to_list o
one None = refl
one (Some y) = refl

-- one more element
pub filter_map-more : {X Y : Type 0} (f : X → Option Y) (xs : List X) (i : ℕ) (x : X) → i < length xs → x ≡ get_or xs i x
    → filter_map f (take (i + 1) xs) ≡ filter_map f (take i xs) ++ option_to_list (f x)
filter_map-more f xs i x below is =
    ap (filter_map f) (take_more xs i x below) ∙ filter_map-append f (take i xs) (get_or xs i x ∷ [])
    ∙ ap (λ ys. filter_map f (take i xs) ++ ys) (one (f (get_or xs i x)) ∙ ap (λ y. option_to_list (f y)) (sym is))
