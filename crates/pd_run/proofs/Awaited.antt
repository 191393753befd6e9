-- What counts in the middle of an instant: what a port holds, or its floor while it is still to be told of a change of the
-- budget.
use Rattle.std.proofs.Common.{◌≡◌, ℕ, ◌+◌, ◌<◌, ◌≤◌, Bool, true, false, ◌&&◌, nat_le, if◌then◌else◌, List, [], ◌∷◌, length, map}
use Rattle.std.proofs.Common.{sum, take, drop, zero, suc, Option, Some, None, refl, ap, ◌∙◌, arith, slice_get, slice_index}
use Rattle.std.specs.List.{range_with_len}
use Rattle.std.proofs.lemmas.List.FromFn.{get_or-map-range_with_len, length-map-range_with_len}
use Rattle.std.proofs.lemmas.List.{length-map}
use Rattle.std.proofs.Math.ListN as list_map
use Rattle.std.proofs.lemmas.List.Sums.{sum_by-cons}
use Rattle.std.proofs.lemmas.Bool.Decides.{nat_tests}
use Rattle.pd_setup.specs.Settings.{floor_of}
use Rattle.pd_setup.specs.Events.{EventData}
use Rattle.pd_port.specs.Happens.{changes_budget}
use Rattle.pd_port.specs.Port.{hold}
use Rattle.pd_port.proofs.PortLaws.{hold_floor}
use Rattle.pd_scenario.specs.declared.budget.BudgetChange.{BudgetChange}
use Rattle.pd_scenario.specs.Plan.{Plan, count, settings_of, script_of, floors_of, told_at, no_settings}
use Rattle.pd_run.specs.Run.{Move, Standing, standing}
use Rattle.pd_run.proofs.Forces.{changes_at}

-- whether the next event tells of a change up to a time
abbrev pub tells : List BudgetChange → ℕ → Option EventData → Bool
tells changes at None = false
tells changes at (Some e) = changes_budget e.happening && (nat_le e.at at && changes_at changes e.at)

-- what counts of a port
abbrev pub counted : Plan → ℕ → ℕ → Standing → ℕ
counted plan at p s = if tells plan.forces at (slice_get (script_of plan p) s.taken) then floor_of (settings_of plan p) else hold
    (settings_of plan p) s.state

abbrev pub all_counted : Plan → List Move → ℕ → List ℕ
all_counted plan past at = map (λ p. counted plan at p (standing plan past p)) (range_with_len 0 (count plan))

pub counted_at : (plan : Plan) (past : List Move) (at p : ℕ) → p < count plan
    → slice_index (all_counted plan past at) p ≡ counted plan at p (standing plan past p)
counted_at plan past at p lt = get_or-map-range_with_len (λ k. counted plan at k (standing plan past k)) 0 (count plan) p
    p 0 lt (omega arith)

pub length-all_counted : (plan : Plan) (past : List Move) (at : ℕ) → length (all_counted plan past at) ≡ count plan
length-all_counted plan past at = length-map-range_with_len (λ k. counted plan at k (standing plan past k)) 0 (count plan)

-- what is told of, is
pub record Told (changes : List BudgetChange) (at : ℕ) (next : Option EventData) : Type 0 where
  pub event : EventData
  pub is_next : next ≡ Some event
  pub is_change : changes_budget event.happening ≡ true
  pub by_then : event.at ≤ at
  pub changes_then : changes_at changes event.at ≡ true

both : (a b : Bool) → a && b ≡ true → (a ≡ true) × (b ≡ true)
both true b h = (refl, h)
both false b h = absurd (cc)

in_time : (a b : ℕ) → nat_le a b ≡ true → a ≤ b
in_time a b h = grind (arith, nat_tests)

is_in_time : (a b : ℕ) → a ≤ b → nat_le a b ≡ true
is_in_time a b h = grind (arith, nat_tests)

pub told_of : (changes : List BudgetChange) (at : ℕ) (next : Option EventData) → tells changes at next ≡ true → Told changes at next
told_of changes at None h = absurd (cc)
told_of changes at (Some e) h =
    let k = both (changes_budget e.happening) (nat_le e.at at && changes_at changes e.at) h in
    let l = both (nat_le e.at at) (changes_at changes e.at) k.1 in
    record { event = e; is_next = refl; is_change = k.0; by_then = in_time e.at at l.0; changes_then = l.1 }

and-true : (a b c : Bool) → a ≡ true → b ≡ true → c ≡ true → a && (b && c) ≡ true
and-true true true true h k l = refl
and-true true true false h k l = l
and-true true false c h k l = absurd (let e : false ≡ true = k in cc)
and-true false b c h k l = absurd (let e : false ≡ true = h in cc)

-- and still at a later time
pub tells_later : (changes : List BudgetChange) (from to : ℕ) (next : Option EventData) → from ≤ to → tells changes from next ≡ true
    → tells changes to next ≡ true
tells_later changes from to None le h = h
tells_later changes from to (Some e) le h =
    let k = both (changes_budget e.happening) (nat_le e.at from && changes_at changes e.at) h in
    let l = both (nat_le e.at from) (changes_at changes e.at) k.1 in
    let m = in_time e.at from l.0 in
    and-true (changes_budget e.happening) (nat_le e.at to) (changes_at changes e.at) k.0 (is_in_time e.at to (omega arith)) l.1

-- a change at a time is told of then
pub tells_of : (changes : List BudgetChange) (t at : ℕ) (next : Option EventData) → next ≡ Some (told_at t) → changes_at changes t ≡ true
    → t ≤ at → tells changes at next ≡ true
tells_of changes t at next is there le =
    ap (tells changes at) is ∙ and-true true (nat_le t at) (changes_at changes t) refl (is_in_time t at le) there

either_floor : (b : Bool) (floor held : ℕ) → b ≡ true → (if b then floor else held) ≡ floor
either_floor true floor held h = refl
either_floor false floor held h = absurd (cc)

either_held : (b : Bool) (floor held : ℕ) → b ≡ false → (if b then floor else held) ≡ held
either_held true floor held h = absurd (cc)
either_held false floor held h = refl

either_less : (b : Bool) (floor held : ℕ) → floor ≤ held → (if b then floor else held) ≤ held
either_less true floor held h = h
either_less false floor held h = omega arith

falls : (a b : Bool) (floor held : ℕ) → floor ≤ held → (a ≡ true → b ≡ true) → (if b then floor else held) ≤ (if a then floor else held)
falls true true floor held h k = omega arith
falls true false floor held h k = absurd (let e : false ≡ true = k refl in cc)
falls false b floor held h k = either_less b floor held h

pub counted_floor : (plan : Plan) (at p : ℕ) (s : Standing) → tells plan.forces at (slice_get (script_of plan p) s.taken) ≡ true
    → counted plan at p s ≡ floor_of (settings_of plan p)
counted_floor plan at p s h = either_floor (tells plan.forces at (slice_get (script_of plan p) s.taken)) (floor_of (settings_of plan p))
    (hold (settings_of plan p) s.state) h

pub counted_hold : (plan : Plan) (at p : ℕ) (s : Standing) → tells plan.forces at (slice_get (script_of plan p) s.taken) ≡ false
    → counted plan at p s ≡ hold (settings_of plan p) s.state
counted_hold plan at p s h = either_held (tells plan.forces at (slice_get (script_of plan p) s.taken)) (floor_of (settings_of plan p))
    (hold (settings_of plan p) s.state) h

-- no more counts than is held
pub counted_less : (plan : Plan) (at p : ℕ) (s : Standing) → counted plan at p s ≤ hold (settings_of plan p) s.state
counted_less plan at p s = either_less (tells plan.forces at (slice_get (script_of plan p) s.taken)) (floor_of (settings_of plan p))
    (hold (settings_of plan p) s.state) (hold_floor (settings_of plan p) s.state)

-- and later no more
pub counted_falls : (plan : Plan) (from to p : ℕ) (s : Standing) → from ≤ to → counted plan to p s ≤ counted plan from p s
counted_falls plan from to p s le =
    falls (tells plan.forces from (slice_get (script_of plan p) s.taken)) (tells plan.forces to (slice_get (script_of plan p) s.taken))
    (floor_of (settings_of plan p)) (hold (settings_of plan p) s.state)
    (hold_floor (settings_of plan p) s.state) (tells_later plan.forces from to (slice_get (script_of plan p) s.taken) le)

-- a floor of the list is the port's
pub floor_at : (plan : Plan) (p : ℕ) → slice_index (floors_of plan) p ≡ floor_of (settings_of plan p)
floor_at plan p = list_map.get_or-map floor_of plan.settings p no_settings

pub length-floors : (plan : Plan) → length (floors_of plan) ≡ count plan
length-floors plan = length-map plan.settings floor_of

-- sums of lists that are nowhere above others
sum-cons : (x : ℕ) (xs : List ℕ) → sum (x ∷ xs) ≡ x + sum xs
sum-cons x xs = sum_by-cons (λ n. n) x xs

pub sum-below : (xs ys : List ℕ) → length xs ≡ length ys → ((k : ℕ) → k < length xs → slice_index xs k ≤ slice_index ys k) → sum xs ≤ sum ys
sum-below [] [] len below = omega arith
sum-below [] (y ∷ ys) len below = absurd (omega arith)
sum-below (x ∷ xs) [] len below = absurd (omega arith)
sum-below (x ∷ xs) (y ∷ ys) len below =
    let head : x ≤ y = below 0 (omega arith) in
    let rest = sum-below xs ys (omega arith) (λ k lt. below (suc k) (omega arith)) in
    omega (arith, sum-cons x xs, sum-cons y ys)

-- below one list before a place, and below another after it
pub sum-parts : (p h : ℕ) (xs hs fs : List ℕ) → length xs ≡ length hs → length xs ≡ length fs → p < length xs
    → ((k : ℕ) → k < p → slice_index xs k ≤ slice_index hs k) → slice_index xs p ≤ h
    → ((k : ℕ) → p < k → k < length xs → slice_index xs k ≤ slice_index fs k) → sum xs ≤ h + (sum (take p hs) + sum (drop (suc p) fs))
sum-parts zero h (x ∷ xs) hs (f ∷ fs) a b lt low here high =
    let head : x ≤ h = here in
    let rest = sum-below xs fs (omega arith) (λ k kn. high (suc k) (omega arith) (omega arith)) in
    let none : sum (take 0 hs) ≡ 0 = nothing hs in
    let same : sum (drop (suc zero) (f ∷ fs)) ≡ sum fs = refl in
    omega (arith, sum-cons x xs) where
      nothing : (hs : List ℕ) → sum (take 0 hs) ≡ 0
      nothing [] = refl
      nothing (h ∷ hs) = refl
sum-parts (suc p) h (x ∷ xs) (y ∷ hs) (f ∷ fs) a b lt low here high =
    let head : x ≤ y = low 0 (omega arith) in
    let rest = sum-parts p h xs hs fs (omega arith) (omega arith) (omega arith) (λ k kp. low (suc k) (omega arith)) here
    (λ k pk kn. high (suc k) (omega arith) (omega arith)) in
    omega (arith, sum-cons x xs, sum-cons y (take p hs))
sum-parts p h [] hs fs a b lt low here high = absurd (omega arith)
sum-parts p h (x ∷ xs) hs [] a b lt low here high = absurd (omega arith)
sum-parts p h (x ∷ xs) [] fs a b lt low here high = absurd (omega arith)
