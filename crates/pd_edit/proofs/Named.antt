-- Lists of what has a name.
use Rattle.std.proofs.Common.{◌≡◌, ℕ, Bool, true, false, not, cond, List, [], ◌∷◌, ◌++◌, filter, map, find, refl, sym, ◌∙◌, inl, inr, Some}
use Rattle.std.proofs.Common.{None}
use Rattle.std.specs.Prelude.{Option, bytes_eq, is_some, option_map}
use Rattle.std.specs.List.{list_any, list_all}
use Rattle.std.proofs.lemmas.Bool.{cases_Bool, false≢true, and_parts, or_parts}
use Rattle.std.proofs.lemmas.Slice.Eq.{bytes_eq-Decides}
use Rattle.pd_scenario.specs.Scenarios.{names_differ}

pub not_true : (a : Bool) → not a ≡ true → a ≡ false
not_true true h = absurd (false≢true h)
not_true false h = refl

pub same_name : (a b : List ℕ) → bytes_eq a b ≡ true → a ≡ b
same_name a b h = (bytes_eq-Decides a b).0 h

-- a name is among the names
abbrev pub is_among : List ℕ → List (List ℕ) → Bool
is_among name names = list_any (λ other. bytes_eq other name) names

pub some_of : {A B : Type 0} (f : A → B) (o : Option A) → is_some (option_map f o) ≡ is_some o
some_of f None = refl
some_of f (Some a) = refl

pub among-last : (k n : List ℕ) (ns : List (List ℕ)) → is_among k ns ≡ true → is_among k (ns ++ n ∷ []) ≡ true
among-last k n [] h = absurd (false≢true h)
among-last k n (m ∷ ns) h =
    elim (cases_Bool (bytes_eq m k)) [
      | inl here ↦ rw here
      | inr other ↦ rw other (among-last k n ns (rw other at h))
    ]

pub not_among-last : (k n : List ℕ) (ns : List (List ℕ)) → is_among k ns ≡ false → bytes_eq n k ≡ false → is_among k (ns ++ n ∷ []) ≡ false
not_among-last k n [] h other = rw other
not_among-last k n (m ∷ ns) h other =
    let (first, more) = or_parts (bytes_eq m k) (is_among k ns) h in
    rw first (not_among-last k n ns more other)

turned : (a b : List ℕ) → bytes_eq a b ≡ false → bytes_eq b a ≡ false
turned a b h =
    elim (cases_Bool (bytes_eq b a)) [
      | inl same ↦
          let e = same_name b a same in
          let itself : bytes_eq a a ≡ true = rw e at same in
          let other : bytes_eq a a ≡ false = rw e at h in
          absurd (false≢true (sym other ∙ itself))
      | inr other ↦ other
    ]

pub differ-last : (n : List ℕ) (ns : List (List ℕ)) → names_differ ns ≡ true → is_among n ns ≡ false → names_differ (ns ++ n ∷ []) ≡ true
differ-last n [] h new = refl
differ-last n (m ∷ ns) h new =
    let (here, more) = and_parts (not (is_among m ns)) (names_differ ns) h in
    let (first, others) = or_parts (bytes_eq m n) (is_among n ns) new in
    rw (not_among-last m n ns (not_true _ here) (turned m n first), differ-last n ns more others)

module _ {X : Type 0} (name : X → List ℕ) where
  pub among : (k : List ℕ) (xs : List X) → is_some (find (λ x. bytes_eq (name x) k) xs) ≡ is_among k (map name xs)
  among k [] = refl
  among k (x ∷ xs) =
      elim (cases_Bool (bytes_eq (name x) k)) [
        | inl here ↦ rw here
        | inr other ↦ rw other (among k xs)
      ]

  -- another in place of the one of its name leaves the names as they are
  pub names-replaced : (new : X) (xs : List X) → map name (map (λ old. cond (bytes_eq (name old) (name new)) new old) xs) ≡ map name xs
  names-replaced new [] = refl
  names-replaced new (x ∷ xs) =
      elim (cases_Bool (bytes_eq (name x) (name new))) [
        | inl same ↦ rw (same, names-replaced new xs, same_name (name x) (name new) same)
        | inr other ↦ rw (other, names-replaced new xs)
      ]

  pub not_among-filter : (k : List ℕ) (q : X → Bool) (xs : List X) → is_among k (map name xs) ≡ false
      → is_among k (map name (filter q xs)) ≡ false
  not_among-filter k q [] h = refl
  not_among-filter k q (x ∷ xs) h =
      let (first, more) = or_parts (bytes_eq (name x) k) (is_among k (map name xs)) h in
      elim (cases_Bool (q x)) [
        | inl kept ↦ rw (kept, first, not_among-filter k q xs more)
        | inr gone ↦ rw gone (not_among-filter k q xs more)
      ]

  pub differ-filter : (q : X → Bool) (xs : List X) → names_differ (map name xs) ≡ true → names_differ (map name (filter q xs)) ≡ true
  differ-filter q [] h = refl
  differ-filter q (x ∷ xs) h =
      let (here, more) = and_parts (not (is_among (name x) (map name xs))) (names_differ (map name xs)) h in
      let new = not_among-filter (name x) q xs (not_true _ here) in
      elim (cases_Bool (q x)) [
        | inl kept ↦ rw (kept, new, differ-filter q xs more)
        | inr gone ↦ rw gone (differ-filter q xs more)
      ]

  -- the names that stay are those that aren't the dropped one
  pub among-dropped : (k gone : List ℕ) (xs : List X) → bytes_eq k gone ≡ false → is_among k (map name xs) ≡ true
      → is_among k (map name (filter (λ x. not (bytes_eq (name x) gone)) xs)) ≡ true
  among-dropped k gone [] other h = absurd (false≢true h)
  among-dropped k gone (x ∷ xs) other h =
      elim (cases_Bool (bytes_eq (name x) gone)) [
        | inl dropped ↦
            let e = same_name (name x) gone dropped in
            let here : bytes_eq (name x) k ≡ false = rw e (turned k gone other) in
            rw dropped (among-dropped k gone xs other (rw here at h))
        | inr kept ↦
            elim (cases_Bool (bytes_eq (name x) k)) [
              | inl here ↦ rw (kept, here)
              | inr later ↦ rw (kept, later) (among-dropped k gone xs other (rw later at h))
            ]
      ]

  pub name_of : (k : List ℕ) (p : List ℕ → Bool) (xs : List X) → list_all (λ x. p (name x)) xs ≡ true → is_among k (map name xs) ≡ true
      → p k ≡ true
  name_of k p [] h there = absurd (false≢true there)
  name_of k p (x ∷ xs) h there =
      let (first, more) = and_parts (p (name x)) (list_all (λ y. p (name y)) xs) h in
      elim (cases_Bool (bytes_eq (name x) k)) [
        | inl here ↦ rw (← same_name (name x) k here) first
        | inr later ↦ name_of k p xs more (rw later at there)
      ]
