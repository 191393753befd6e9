-- The supplies of an offer that a sink accepts.
use Rattle.std.proofs.Common.{◌≡◌, ◌↔◌, ℕ, zero, suc, ◌+◌, ◌<◌, Bool, true, false, if◌then◌else◌, List, [], ◌∷◌, length, refl, sym, ap, ◌∙◌}
use Rattle.std.proofs.Common.{arith}
use Rattle.std.specs.Prelude.{slice_index}
use Rattle.std.specs.List.{All, Contains}
use Rattle.std.proofs.lemmas.List.Elements.{All-nil, All-cons, All-weaker, All-contains}
use Rattle.pd_sink.specs.declared.rule.Offered.{Offered}
use Rattle.pd_setup.specs.Sinks.{SinkData}
use Rattle.pd_sink.specs.Rule.{is_accepted, supply_at, accepted, accepted_from, IsAcceptedOf}

-- the supply of an accepted object at a place, where the first object has this position
record IsFrom (sink : SinkData) (position : ℕ) (offer : List ℕ) (o : Offered) : Type 0 where
  place : ℕ
  within : place < length offer
  object_accepted : is_accepted sink (slice_index offer place) ≡ true
  supply : o ≡ supply_at (position + place) (slice_index offer place)

from-first : (sink : SinkData) (position w : ℕ) (ws : List ℕ) → is_accepted sink w ≡ true →
    IsFrom sink position (w ∷ ws) (supply_at position w)
from-first sink position w ws e =
    let p : position ≡ position + 0 = omega arith in
    record { place = 0; within = omega arith; object_accepted = e; supply = ap (λ (n : ℕ). supply_at n w) p }

from-later : (sink : SinkData) (position w : ℕ) (ws : List ℕ) (o : Offered) → IsFrom sink (position + 1) ws o →
    IsFrom sink position (w ∷ ws) o
from-later sink position w ws o h =
    let l = h.within in
    let p : position + 1 + h.place ≡ position + suc h.place = omega arith in
    record {
      place = suc h.place;
      within = omega arith;
      object_accepted = h.object_accepted;
      supply = h.supply ∙ ap (λ (n : ℕ). supply_at n (slice_index ws h.place)) p;
    }

all-more : (sink : SinkData) (position w : ℕ) (ws : List ℕ) (os : List Offered) (t : Bool) → is_accepted sink w ≡ t →
    All (IsFrom sink position (w ∷ ws)) os → All (IsFrom sink position (w ∷ ws)) (if t then supply_at position w ∷ os else os)
all-more sink position w ws os true e all =
    All-cons (IsFrom sink position (w ∷ ws)) (supply_at position w) os (from-first sink position w ws e) all
all-more sink position w ws os false e all = all

all-from : (sink : SinkData) (position : ℕ) (offer : List ℕ) → All (IsFrom sink position offer) (accepted_from sink position offer)
all-from sink position [] = All-nil (IsFrom sink position [])
all-from sink position (w ∷ ws) =
    all-more sink position w ws (accepted_from sink (position + 1) ws) (is_accepted sink w) refl
    (All-weaker (IsFrom sink (position + 1) ws) (IsFrom sink position (w ∷ ws)) (from-later sink position w ws)
    (accepted_from sink (position + 1) ws) (all-from sink (position + 1) ws))

contains-first : (t : Bool) (x o : Offered) (os : List Offered) → t ≡ true → o ≡ x → Contains (if t then x ∷ os else os) o
contains-first true x o os e q = (0, omega arith, sym q)
contains-first false x o os e q = absurd (cc)

contains-later : (t : Bool) (x o : Offered) (os : List Offered) → Contains os o → Contains (if t then x ∷ os else os) o
contains-later true x o os h = let l = h.1 in (suc h.0, omega arith, h.2)
contains-later false x o os h = h

contains-from : (sink : SinkData) (position : ℕ) (offer : List ℕ) (o : Offered) (place : ℕ) → place < length offer →
    is_accepted sink (slice_index offer place) ≡ true → o ≡ supply_at (position + place) (slice_index offer place) →
    Contains (accepted_from sink position offer) o
contains-from sink position [] o place l e q = absurd (omega arith)
contains-from sink position (w ∷ ws) o zero l e q =
    let p : position + 0 ≡ position = omega arith in
    contains-first (is_accepted sink w) (supply_at position w) o (accepted_from sink (position + 1) ws) e (q
    ∙ ap (λ (n : ℕ). supply_at n w) p)
contains-from sink position (w ∷ ws) o (suc place) l e q =
    let p : position + suc place ≡ position + 1 + place = omega arith in
    contains-later (is_accepted sink w) (supply_at position w) o (accepted_from sink (position + 1) ws)
    (contains-from sink (position + 1) ws o place (omega arith) e (q ∙ ap (λ (n : ℕ). supply_at n (slice_index ws place)) p))

accepted-of : (sink : SinkData) (offer : List ℕ) (o : Offered) → IsFrom sink 1 offer o → IsAcceptedOf sink offer o
accepted-of sink offer o h =
    let p : 1 + h.place ≡ h.place + 1 = omega arith in
    record {
      place = h.place;
      within = h.within;
      object_accepted = h.object_accepted;
      supply = h.supply ∙ ap (λ (n : ℕ). supply_at n (slice_index offer h.place)) p;
    }

contains-of : (sink : SinkData) (offer : List ℕ) (o : Offered) → IsAcceptedOf sink offer o → Contains (accepted sink offer) o
contains-of sink offer o h =
    let p : h.place + 1 ≡ 1 + h.place = omega arith in
    contains-from sink 1 offer o h.place h.within h.object_accepted (h.supply ∙ ap (λ (n : ℕ). supply_at n (slice_index offer h.place)) p)

pub Contains-accepted : (sink : SinkData) (offer : List ℕ) (o : Offered) → Contains (accepted sink offer) o ↔ IsAcceptedOf sink offer o
Contains-accepted sink offer o = (
  λ (h : Contains (accepted sink offer) o). accepted-of sink offer o
      (All-contains (IsFrom sink 1 offer) (accepted sink offer) o (all-from sink 1 offer) h),
  contains-of sink offer o,
)
