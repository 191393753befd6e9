-- The events of a port stand in the order of their times and numbers, and are exactly its events.
use Rattle.std.proofs.Common.{◌≡◌, ℕ, zero, suc, ◌+◌, ◌<◌, ◌≤◌, ◌⊎◌, true, false, ◌||◌, ◌&&◌, ◌==◌, List, [], ◌∷◌, length, fold, refl, sym}
use Rattle.std.proofs.Common.{◌∙◌, inl, inr, arith, add-one, Some}
use Rattle.std.specs.Prelude.{slice_get, nat_lt, Contains}
use Rattle.std.proofs.lemmas.Bool.{cases_Bool}
use Rattle.std.proofs.lemmas.Bool.Decides.{nat_tests}
use Rattle.pd_setup.specs.Events.{EventData}
use Rattle.pd_scenario.specs.Plan.{ComesBefore, number_of}
use Rattle.pd_scenario.specs.Script.{is_before, put}
use Rattle.pd_scenario.proofs.Lists.{here, here_is, there, cases, none}

-- ---- two events

-- of one time and number
pub record SamePlace (e f : EventData) : Type 0 where
  pub at : e.at ≡ f.at
  pub number : number_of e.happening ≡ number_of f.happening

before_numbers : (a b m n : ℕ) → (nat_lt a b || ((a == b) && nat_lt m n)) ≡ true → (a < b) ⊎ ((a ≡ b) × (m < n))
before_numbers a b m n h = grind (arith, nat_tests)

same_numbers : (a b m n : ℕ) → (nat_lt a b || ((a == b) && nat_lt m n)) ≡ false → (nat_lt b a || ((b == a) && nat_lt n m)) ≡ false
    → (a ≡ b) × (m ≡ n)
same_numbers a b m n h k = grind (arith, nat_tests)

before : (e f : EventData) → is_before e f ≡ true → ComesBefore e f
before e f h = before_numbers e.at f.at (number_of e.happening) (number_of f.happening) h

pub same : (e f : EventData) → is_before e f ≡ false → is_before f e ≡ false → SamePlace e f
same e f h k =
    let both = same_numbers e.at f.at (number_of e.happening) (number_of f.happening) h k in
    record { at = both.0; number = both.1 }

through : (a b c m n o : ℕ) → (a < b) ⊎ ((a ≡ b) × (m < n)) → (b < c) ⊎ ((b ≡ c) × (n < o)) → (a < c) ⊎ ((a ≡ c) × (m < o))
through a b c m n o h k =
    elim h [
      | inl less ↦ elim k [ inl more ↦ inl (omega arith) | inr tie ↦ inl (omega (arith, tie.0)) ]
      | inr tie ↦
          elim k [ inl more ↦ inl (omega (arith, tie.0)) | inr other ↦ inr (omega (arith, tie.0, other.0), omega (arith, tie.1, other.1)) ]
    ]

ComesBefore-trans : (e f g : EventData) → ComesBefore e f → ComesBefore f g → ComesBefore e g
ComesBefore-trans e f g h k = through e.at f.at g.at (number_of e.happening) (number_of f.happening) (number_of g.happening) h k

not_itself : (e : EventData) → ComesBefore e e → ⊥
not_itself e h = elim h [ inl less ↦ omega arith | inr tie ↦ omega (arith, tie.1) ]

moved : (e f g : EventData) → SamePlace e f → ComesBefore f g → ComesBefore e g
moved e f g place h = rw (place.at, place.number) h

-- ---- what the events with one more contain

pub put_only : (es : List EventData) (e x : EventData) → Contains (put es e) x → (e ≡ x) ⊎ Contains es x
put_only [] e x h = cases e x [] h
put_only (f ∷ es) e x h =
    elim (cases_Bool (is_before f e)) [
      | inl first ↦
          elim (cases f x (put es e) (rw first at h)) [
            | inl is ↦ inr (rw is (here x es))
            | inr later ↦ elim (put_only es e x later) [ inl is ↦ inl is | inr old ↦ inr (there f x es old) ]
          ]
      | inr later ↦
          elim (cases_Bool (is_before e f)) [
            | inl first ↦ cases e x (f ∷ es) (rw (later, first) at h)
            | inr tie ↦ elim (cases e x es (rw (later, tie) at h)) [ inl is ↦ inl is | inr old ↦ inr (there f x es old) ]
          ]
    ]

pub put_new : (es : List EventData) (e : EventData) → Contains (put es e) e
put_new [] e = here e []
put_new (f ∷ es) e =
    elim (cases_Bool (is_before f e)) [
      | inl first ↦ rw first (there f e (put es e) (put_new es e))
      | inr later ↦
          elim (cases_Bool (is_before e f)) [
            | inl first ↦ rw (later, first) (here e (f ∷ es))
            | inr tie ↦ rw (later, tie) (here e es)
          ]
    ]

-- an event that only its like could replace
pub put_old : (es : List EventData) (e x : EventData) → (SamePlace x e → x ≡ e) → Contains es x → Contains (put es e) x
put_old [] e x alike h = absurd (none x h)
put_old (f ∷ es) e x alike h =
    elim (cases_Bool (is_before f e)) [
      | inl first ↦
          elim (cases f x es h) [
            | inl is ↦ rw first (here_is f x (put es e) is)
            | inr later ↦ rw first (there f x (put es e) (put_old es e x alike later))
          ]
      | inr later ↦
          elim (cases_Bool (is_before e f)) [
            | inl first ↦ rw (later, first) (there e x (f ∷ es) h)
            | inr tie ↦
                elim (cases f x es h) [
                  | inl is ↦
                      let place : SamePlace x e = rw (← is) (same f e later tie) in
                      rw (later, tie, alike place) (here e es)
                  | inr old ↦ rw (later, tie) (there e x es old)
                ]
          ]
    ]

pub each_only : (acc es : List EventData) (x : EventData) → Contains (fold put acc es) x → Contains acc x ⊎ Contains es x
each_only acc [] x h = inl h
each_only acc (e ∷ es) x h =
    elim (each_only (put acc e) es x h) [
      | inl early ↦ elim (put_only acc e x early) [ inl is ↦ inr (rw is (here x es)) | inr old ↦ inl old ]
      | inr later ↦ inr (there e x es later)
    ]

-- where two events of one place are the same event, none is lost
pub each_all : (Known : EventData → Type 0) → ((e f : EventData) → Known e → Known f → SamePlace e f → e ≡ f) → (acc es : List EventData)
    → ((x : EventData) → Contains acc x → Known x)
    → ((x : EventData) → Contains es x → Known x) → (x : EventData) → Contains acc x ⊎ Contains es x → Contains (fold put acc es) x
each_all Known alike acc [] old new x h = elim h [ inl early ↦ early | inr later ↦ absurd (none x later) ]
each_all Known alike acc (e ∷ es) old new x h =
    let first : Known e = new e (here e es) in
    let kept : (y : EventData) → Contains (put acc e) y
    → Known y = λ y at. elim (put_only acc e y at) [ inl is ↦ rw (← is) first | inr early ↦ old y early ] in
    each_all Known alike (put acc e) es kept (λ y at. new y (there e y es at)) x (
    elim h [
      | inl early ↦ inl (put_old acc e x (alike x e (old x early) first) early)
      | inr later ↦ elim (cases e x es later) [ inl is ↦ inl (rw (← is) (put_new acc e)) | inr more ↦ inr more ]
    ]
    )

length-put : (es : List EventData) (e : EventData) → length (put es e) ≤ length es + 1
length-put [] e = omega arith
length-put (f ∷ es) e =
    elim (cases_Bool (is_before f e)) [
      | inl first ↦ rw first (let rest = length-put es e in omega arith)
      | inr later ↦ elim (cases_Bool (is_before e f)) [
        | inl first ↦ rw (later, first) (omega arith)
        | inr tie ↦
            rw (later, tie) (omega arith)
      ]
    ]

pub length-each : (acc es : List EventData) → length (fold put acc es) ≤ length acc + length es
length-each acc [] = omega arith
length-each acc (e ∷ es) =
    let first = length-put acc e in
    let rest = length-each (put acc e) es in
    omega arith

-- ---- in order

-- each event comes before the next
abbrev pub InOrder : List EventData → Type 0
InOrder [] = Unit {0}
InOrder (e ∷ []) = Unit {0}
InOrder (e ∷ (f ∷ es)) = ComesBefore e f × InOrder (f ∷ es)

in_front : (f g : EventData) (es : List EventData) (e : EventData) → ComesBefore f g → ComesBefore f e → InOrder (put (g ∷ es) e)
    → InOrder (f ∷ put (g ∷ es) e)
in_front f g es e fg fe order =
    elim (cases_Bool (is_before g e)) [
      | inl first ↦ rw first (fg, rw first at order)
      | inr later ↦
          elim (cases_Bool (is_before e g)) [
            | inl first ↦ rw (later, first) (fe, rw (later, first) at order)
            | inr tie ↦ rw (later, tie) (fe, rw (later, tie) at order)
          ]
    ]

in_place : (e f : EventData) (es : List EventData) → SamePlace e f → InOrder (f ∷ es) → InOrder (e ∷ es)
in_place e f [] place order = tt
in_place e f (g ∷ es) place order = (moved e f g place order.0, order.1)

InOrder-put : (es : List EventData) (e : EventData) → InOrder es → InOrder (put es e)
InOrder-put [] e order = tt
InOrder-put (f ∷ []) e order =
    elim (cases_Bool (is_before f e)) [
      | inl first ↦ rw first (before f e first, tt)
      | inr later ↦
          elim (cases_Bool (is_before e f)) [
            | inl first ↦ rw (later, first) (before e f first, tt)
            | inr tie ↦ rw (later, tie) tt
          ]
    ]
InOrder-put (f ∷ (g ∷ es)) e order =
    elim (cases_Bool (is_before f e)) [
      | inl first ↦ rw first (in_front f g es e order.0 (before f e first) (InOrder-put (g ∷ es) e order.1))
      | inr later ↦
          elim (cases_Bool (is_before e f)) [
            | inl first ↦ rw (later, first) (before e f first, order)
            | inr tie ↦ rw (later, tie) (in_place e f (g ∷ es) (same e f tie later) order)
          ]
    ]

pub InOrder-each : (acc es : List EventData) → InOrder acc → InOrder (fold put acc es)
InOrder-each acc [] order = order
InOrder-each acc (e ∷ es) order = InOrder-each (put acc e) es (InOrder-put acc e order)

pub adjacent : (es : List EventData) (i : ℕ) (e f : EventData) → InOrder es → slice_get es i ≡ Some e → slice_get es (suc i) ≡ Some f
    → ComesBefore e f
adjacent [] i e f order a b = absurd (cc)
adjacent (x ∷ []) zero e f order a b = absurd (cc)
adjacent (x ∷ []) (suc i) e f order a b = absurd (cc)
adjacent (x ∷ (y ∷ es)) zero e f order a b =
    let first : x ≡ e = cc in
    let second : y ≡ f = cc in
    rw (← first, ← second) order.0
adjacent (x ∷ (y ∷ es)) (suc i) e f order a b = adjacent (y ∷ es) i e f order.1 a b

pub from_adjacent : (es : List EventData) → ((i : ℕ) (e f : EventData) → slice_get es i ≡ Some e → slice_get es (i + 1) ≡ Some f
    → ComesBefore e f) → InOrder es
from_adjacent [] each = tt
from_adjacent (e ∷ []) each = tt
from_adjacent (e ∷ (f ∷ es)) each =
    (each 0 e f refl refl, from_adjacent (f ∷ es) (λ i x y a b. each (suc i) x y a (rw add-one (rw add-one at b))))

-- ---- no other list

all_after : (e : EventData) (es : List EventData) (x : EventData) → InOrder (e ∷ es) → Contains es x → ComesBefore e x
all_after e [] x order h = absurd (none x h)
all_after e (f ∷ es) x order h =
    elim (cases f x es h) [
      | inl is ↦ rw (← is) order.0
      | inr later ↦ ComesBefore-trans e f x order.0 (all_after f es x order.1 later)
    ]

tail_order : (e : EventData) (es : List EventData) → InOrder (e ∷ es) → InOrder es
tail_order e [] order = tt
tail_order e (f ∷ es) order = order.1

first_same : (e f : EventData) (es fs : List EventData) → InOrder (e ∷ es) → InOrder (f ∷ fs) → Contains (f ∷ fs) e → Contains (e ∷ es) f
    → e ≡ f
first_same e f es fs eo fo e_there f_there =
    elim (cases f e fs e_there) [
      | inl is ↦ sym is
      | inr e_later ↦
          elim (cases e f es f_there) [
            | inl is ↦ is
            | inr f_later ↦ absurd (not_itself e (ComesBefore-trans e f e (all_after e es f eo f_later) (all_after f fs e fo e_later)))
          ]
    ]

rest_there : (e f : EventData) (es fs : List EventData) → e ≡ f → InOrder (e ∷ es)
    → ((x : EventData) → Contains (e ∷ es) x → Contains (f ∷ fs) x) → (x : EventData) → Contains es x → Contains fs x
rest_there e f es fs is order all x h =
    elim (cases f x fs (all x (there e x es h))) [
      | inl first ↦ absurd (not_itself e (let last = all_after e es x order h in rw (is ∙ first) (rw (is ∙ first) at last)))
      | inr later ↦ later
    ]

pub one_order : (es fs : List EventData) → InOrder es → InOrder fs → ((x : EventData) → Contains es x → Contains fs x)
    → ((x : EventData) → Contains fs x → Contains es x) → es ≡ fs
one_order [] [] eo fo left right = refl
one_order [] (f ∷ fs) eo fo left right = absurd (none f (right f (here f fs)))
one_order (e ∷ es) [] eo fo left right = absurd (none e (left e (here e es)))
one_order (e ∷ es) (f ∷ fs) eo fo left right =
    let first = first_same e f es fs eo fo (left e (here e es)) (right f (here f fs)) in
    let rest = one_order es fs (tail_order e es eo) (tail_order f fs fo) (rest_there e f es fs first eo left)
    (rest_there f e fs es (sym first) fo right) in
    rw (first, rest)
