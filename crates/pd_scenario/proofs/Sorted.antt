-- The events of a port, sorted by their times and numbers.
use Rattle.std.proofs.Common.{◌≡◌, ℕ, suc, ◌+◌, ◌<◌, ◌⊎◌, Bool, true, false, ◌&&◌, ◌||◌, ◌==◌, List, [], ◌∷◌, length, fold, get_or, refl}
use Rattle.std.proofs.Common.{sym, inl, inr, arith, add-one}
use Rattle.std.specs.Prelude.{nat_lt, Contains}
use Rattle.std.specs.List.{dedup, dedup_from}
use Rattle.std.specs.List.Sorted.{IsPermutation}
use Rattle.std.specs.Ordering.{nat_cmp, ordering_then, is_lt}
use Rattle.std.specs.declared.cmp.Ordering.{Ordering}
use Rattle.std.proofs.lemmas.Bool.{cases_Bool}
use Rattle.std.proofs.lemmas.Bool.Decides.{nat_tests}
use Rattle.std.proofs.lemmas.List.Kept.{Contains-from_dedup}
use Rattle.std.proofs.lemmas.List.Sorted.{Contains-permutation, IsPermutation-sym}
use Rattle.pd_setup.specs.Events.{EventData}
use Rattle.pd_scenario.specs.Plan.{number_of}
use Rattle.pd_scenario.specs.Script.{is_before, put}
use Rattle.pd_scenario.proofs.Lists.{here, here_is, there, cases, none}
use Rattle.pd_scenario.proofs.Ordered.{SamePlace, InOrder, InOrder-each, each_only, each_all, one_order}

abbrev pub place : EventData → ℕ × ℕ
place e = (e.at, number_of e.happening)

abbrev pub by_place : ℕ × ℕ → ℕ × ℕ → Ordering
by_place x y = ordering_then (nat_cmp x.0 y.0) (nat_cmp x.1 y.1)

abbrev pub same_place : EventData → EventData → Bool
same_place e f = (e.at == f.at) && (number_of e.happening == number_of f.happening)

-- no event comes before the one in front of it
abbrev pub Rises : List EventData → Type 0
Rises [] = Unit {0}
Rises (e ∷ []) = Unit {0}
Rises (e ∷ (f ∷ es)) = (is_before f e ≡ false) × Rises (f ∷ es)

not_less : (a b m n : ℕ) → is_lt (ordering_then (nat_cmp a b) (nat_cmp m n)) ≡ false → (nat_lt a b || ((a == b) && nat_lt m n)) ≡ false
not_less a b m n h = grind (arith, nat_tests)

pub rises : (es : List EventData)
    → ((k : ℕ) (d : EventData) → k + 1 < length es → is_lt (by_place (place (get_or es (k + 1) d)) (place (get_or es k d))) ≡ false)
    → Rises es
rises [] sorted = tt
rises (e ∷ []) sorted = tt
rises (e ∷ (f ∷ es)) sorted = (
  not_less f.at e.at (number_of f.happening) (number_of e.happening) (sorted 0 e (omega arith)),
  rises (f ∷ es) (λ k d within. rw add-one (rw add-one at (sorted (suc k) d (omega arith)))),
)

same_numbers : (a b m n : ℕ) → ((a == b) && (m == n)) ≡ true → (a ≡ b) × (m ≡ n)
same_numbers a b m n h = grind (arith, nat_tests)

pub same : (e f : EventData) → same_place e f ≡ true → SamePlace e f
same e f h =
    let both = same_numbers e.at f.at (number_of e.happening) (number_of f.happening) h in
    record { at = both.0; number = both.1 }

later_numbers : (a b m n : ℕ) → (nat_lt b a || ((b == a) && nat_lt n m)) ≡ false → ((b == a) && (n == m)) ≡ false
    → (a < b) ⊎ ((a ≡ b) × (m < n))
later_numbers a b m n h k = grind (arith, nat_tests)

rises_over : (e f : EventData) (es : List EventData) → SamePlace f e → Rises (f ∷ es) → Rises (e ∷ es)
rises_over e f [] place up = tt
rises_over e f (g ∷ es) place up = (rw (← place.at, ← place.number) up.0, up.1)

-- the first event stays, and each that is kept comes before the next
record Kept (e : EventData) (es : List EventData) : Type 0 where
  rest : List EventData
  is : dedup_from same_place e es ≡ e ∷ rest
  order : InOrder (e ∷ rest)

kept : (e : EventData) (es : List EventData) → Rises (e ∷ es) → Kept e es
kept e [] up = record { rest = []; is = refl; order = tt }
kept e (f ∷ es) up =
    elim (cases_Bool (same_place f e)) [
      | inl tie ↦
          let more = kept e es (rises_over e f es (same f e tie) up.1) in
          record { rest = more.rest; is = rw tie more.is; order = more.order }
      | inr other ↦
          let more = kept f es up.1 in
          record {
            rest = f ∷ more.rest;
            is = rw (other, more.is) refl;
            order = (later_numbers e.at f.at (number_of e.happening) (number_of f.happening) up.0 other, more.order);
          }
    ]

pub InOrder-dedup : (es : List EventData) → Rises es → InOrder (dedup same_place es)
InOrder-dedup [] up = tt
InOrder-dedup (e ∷ es) up = let k = kept e es up in rw k.is k.order

-- where two events of one place are the same event, none is lost
dedup_from_has : (e : EventData) (es : List EventData) (x : EventData)
    → ((f g : EventData) → Contains (e ∷ es) f → Contains (e ∷ es) g → SamePlace f g → f ≡ g) → Contains (e ∷ es) x
    → Contains (dedup_from same_place e es) x
dedup_from_has e [] x alike h = h
dedup_from_has e (f ∷ es) x alike h =
    let over : (y : EventData) → Contains (e ∷ es) y → Contains (e ∷ (f ∷ es)) y
    = λ y at. elim (cases e y es at) [ inl is ↦ here_is e y (f ∷ es) is | inr later ↦ there e y (f ∷ es) (there f y es later) ] in
    elim (cases_Bool (same_place f e)) [
      | inl tie ↦
          let one = alike f e (there e f (f ∷ es) (here f es)) (here e (f ∷ es)) (same f e tie) in
          rw tie (dedup_from_has e es x (λ g k g_at k_at. alike g k (over g g_at) (over k k_at)) (
          elim (cases e x (f ∷ es) h) [
            | inl is ↦ here_is e x es is
            | inr later ↦ elim (cases f x es later) [ inl is ↦ here_is e x es (rw (← is) (sym one)) | inr last ↦ there e x es last ]
          ]
          ))
      | inr other ↦
          rw other (
          elim (cases e x (f ∷ es) h) [
            | inl is ↦ here_is e x (dedup_from same_place f es) is
            | inr later ↦ there e x (dedup_from same_place f es)
                (dedup_from_has f es x (λ g k g_at k_at. alike g k (there e g (f ∷ es) g_at) (there e k (f ∷ es) k_at)) later)
          ]
          )
    ]

dedup_has : (es : List EventData) (x : EventData)
    → ((f g : EventData) → Contains es f → Contains es g → SamePlace f g → f ≡ g) → Contains es x → Contains (dedup same_place es) x
dedup_has [] x alike h = h
dedup_has (e ∷ es) x alike h = dedup_from_has e es x alike h

-- events in another order, which rises: without their repetitions they are the events each put in its place
pub sorted_is : (made es : List EventData) → ((f g : EventData) → Contains made f → Contains made g → SamePlace f g → f ≡ g)
    → IsPermutation made es → Rises es → dedup same_place es ≡ fold put [] made
sorted_is made es alike moved up =
    let back = IsPermutation-sym made es moved in
    let made_has : (x : EventData) → Contains es x → Contains made x = λ x h. Contains-permutation es made x back h in
    one_order (dedup same_place es) (fold put [] made) (InOrder-dedup es up) (InOrder-each [] made tt)
    (λ x h. each_all (λ e. Contains made e) alike [] made (λ e nowhere. absurd (none e nowhere)) (λ e at. at) x
    (inr (made_has x (Contains-from_dedup same_place es x h))))
    (λ x h. dedup_has es x (λ f g f_at g_at. alike f g (made_has f f_at) (made_has g g_at))
    (Contains-permutation made es x moved (elim (each_only [] made x h) [ inl early ↦ absurd (none x early) | inr later ↦ later ])))
