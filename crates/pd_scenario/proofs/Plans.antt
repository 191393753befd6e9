-- The plan of a valid scenario is a plan.
use Rattle.std.proofs.Common.{◌≡◌, ℕ, ◌+◌, ◌*◌, ◌<◌, ◌≤◌, Bool, true, false, not, ◌&&◌, cond, List, [], ◌∷◌, length, map, fold, refl, sym}
use Rattle.std.proofs.Common.{◌⊎◌, ⊎_elim, ap, ◌∙◌, inl, inr, arith, add-one, Some, None}
use Rattle.std.specs.Prelude.{Option, option_map, sum, sum_by, slice_get, ◌==◌, nat_le, Contains}
use Rattle.std.specs.List.{range_with_len, filter_map, list_all}
use Rattle.std.proofs.lemmas.Bool.{cases_Bool, cases_lt, false≢true, and_parts, not-true}
use Rattle.std.proofs.lemmas.Bool.Decides.{nat_tests}
use Rattle.std.proofs.lemmas.List.{get_or_past}
use Rattle.std.proofs.lemmas.List.Sums.{sum_by-cons}
use Rattle.std.proofs.lemmas.List.FromFn.{get_or-map-range_with_len, length-map-range_with_len}
use Rattle.pd_setup.specs.Events.{EventData}
use Rattle.pd_setup.specs.declared.event.Happening.{Happening}
use Rattle.pd_setup.specs.declared.event.Happening.TheVariants as happens
use Rattle.pd_setup.specs.declared.event.Happening.TheVariants.{Port}
use Rattle.pd_setup.specs.Settings.{SettingsData, floor_of}
use Rattle.pd_scenario.specs.declared.budget.BudgetChange.{BudgetChange}
use Rattle.pd_scenario.specs.declared.named.NamedCable.{NamedCable}
use Rattle.pd_scenario.specs.declared.named.NamedSink.{NamedSink}
use Rattle.pd_scenario.specs.declared.event.ScenarioHappening.{ScenarioHappening}
use Rattle.pd_scenario.specs.declared.event.ScenarioHappening.TheVariants.{OnPort, Budget}
use Rattle.pd_scenario.specs.Events.{ScenarioEventKind}
use Rattle.pd_scenario.specs.declared.event.ScenarioEvent.{ScenarioEvent}
use Rattle.pd_scenario.specs.declared.limits.Quantity.TheVariants as quantity
use Rattle.pd_scenario.specs.Limits.{allows}
use Rattle.pd_scenario.specs.Plan.{IsPlan, ComesBefore, IsFollowedBy, is_change, script_of, number_of, told_at, force}
use Rattle.pd_scenario.specs.Plan.{budget_after, last_change}
use Rattle.pd_scenario.specs.Scenarios.{ScenarioData, IsValid, has_id, ids_differ, event_fits, happening_fits, budget_in, budget_of}
use Rattle.pd_scenario.specs.Script.{AreOneEach, script, events_for, event_for, seen_by, resolved, put}
use Rattle.pd_scenario.specs.Plans.{plan_of, change_in, change_of, changes_of, IsScript}
use Rattle.pd_scenario.proofs.Lists.{cases, none, passes, filter_map_from, filter_map_has, length-filter_map, least_first, least_of}
use Rattle.pd_scenario.proofs.Ordered.{SamePlace, InOrder-each, each_only, each_all, length-each, adjacent, from_adjacent, one_order}
use Rattle.pd_scenario.proofs.Forces.{last_is_there}

-- ---- two events of a port at one time and number are the same

id_there : (es : List ScenarioEvent) (e : ScenarioEvent) (k : ℕ) → Contains es e → e.id ≡ k → has_id es k ≡ true
id_there [] e k h is = absurd (none e h)
id_there (f ∷ es) e k h is =
    elim (cases f e es h) [
      | inl first ↦ let here : (f.id == k) ≡ true = rw (first, is) (grind (arith, nat_tests)) in rw here
      | inr later ↦ let rest = id_there es e k later is in elim (cases_Bool (f.id == k)) [ inl now ↦ rw now | inr other ↦ rw (other, rest) ]
    ]

pub one_id : (es : List ScenarioEvent) (e f : ScenarioEvent) → ids_differ es ≡ true → Contains es e → Contains es f → e.id ≡ f.id → e ≡ f
one_id [] e f differ e_there f_there ids = absurd (none e e_there)
one_id (x ∷ es) e f differ e_there f_there ids =
    let (alone, more) = and_parts (not (has_id es x.id)) (ids_differ es) differ in
    let new = not-true (has_id es x.id) alone in
    elim (cases x e es e_there) [
      | inl first ↦
          elim (cases x f es f_there) [
            | inl second ↦ sym first ∙ second
            | inr later ↦ absurd (false≢true (sym new ∙ id_there es f x.id later (rw first (sym ids))))
          ]
      | inr early ↦
          elim (cases x f es f_there) [
            | inl second ↦ absurd (false≢true (sym new ∙ id_there es e x.id early (rw second ids)))
            | inr later ↦ one_id es e f more early later ids
          ]
    ]

nothing_is : {X : Type 0} (x : X) → None ≡ Some x → ⊥
nothing_is x h = cc

unwrapped : {X : Type 0} (x y : X) → Some x ≡ Some y → x ≡ y
unwrapped x y h = cc

-- what a port is shown
shown : (b : Bool) (what : Happening) (at : ℕ) (x : EventData)
    → option_map (λ (happening : Happening). record { at = at; happening = happening }) (cond b (Some what) None) ≡ Some x
    → record { at = at; happening = what } ≡ x
shown true what at x is = unwrapped (record { at = at; happening = what }) x is
shown false what at x is = absurd (nothing_is x is)

same_kind : (p q : ℕ) (k l : ScenarioEventKind) → OnPort p k ≡ OnPort q l → k ≡ l
same_kind p q k l is = cc

-- two events of one time and number are the same, where one id has one happening
alike : (cables : List NamedCable) (sinks : List NamedSink) (port id other at also : ℕ) (h k : ScenarioHappening) (x y : EventData)
    → 1 ≤ id → 1 ≤ other → (id ≡ other → h ≡ k)
    → option_map (λ (happening : Happening). record { at = at; happening = happening }) (seen_by cables sinks port id h) ≡ Some x
    → option_map (λ (happening : Happening). record { at = also; happening = happening }) (seen_by cables sinks port other k) ≡ Some y
    → SamePlace x y → x ≡ y
alike cables sinks port id other at also (OnPort p k) (OnPort q l) x y first second same a b place =
    let left = shown (p == port) (Port id (resolved cables sinks k)) at x a in
    let right = shown (q == port) (Port other (resolved cables sinks l)) also y b in
    let times : at ≡ also = ap (λ (e : EventData). e.at) left ∙ place.at ∙ sym (ap (λ (e : EventData). e.at) right) in
    let ids : id ≡ other = ap (λ (e : EventData). number_of e.happening) left ∙ place.number
    ∙ sym (ap (λ (e : EventData). number_of e.happening) right) in
    let kinds = same_kind p q k l (same ids) in
    sym left ∙ rw (times, ids, kinds) right
alike cables sinks port id other at also (OnPort p k) (Budget mw) x y first second same a b place =
    let left = shown (p == port) (Port id (resolved cables sinks k)) at x a in
    let right = shown true happens.Budget also y b in
    let number : id ≡ 0 = ap (λ (e : EventData). number_of e.happening) left ∙ place.number
    ∙ sym (ap (λ (e : EventData). number_of e.happening) right) in
    absurd (omega arith)
alike cables sinks port id other at also (Budget mw) (OnPort q l) x y first second same a b place =
    let left = shown true happens.Budget at x a in
    let right = shown (q == port) (Port other (resolved cables sinks l)) also y b in
    let number : 0 ≡ other = ap (λ (e : EventData). number_of e.happening) left ∙ place.number
    ∙ sym (ap (λ (e : EventData). number_of e.happening) right) in
    absurd (omega arith)
alike cables sinks port id other at also (Budget mw) (Budget nw) x y first second same a b place =
    let left = shown true happens.Budget at x a in
    let right = shown true happens.Budget also y b in
    let times : at ≡ also = ap (λ (e : EventData). e.at) left ∙ place.at ∙ sym (ap (λ (e : EventData). e.at) right) in
    sym left ∙ rw times right

from_one : (n : ℕ) (e : ScenarioEvent) → event_fits n e ≡ true → 1 ≤ e.id
from_one n e h =
    let numbers = (and_parts (allows quantity.EventId e.id && allows quantity.Time e.at) (happening_fits n e.happening) h).0 in
    let id = (and_parts (allows quantity.EventId e.id) (allows quantity.Time e.at) numbers).0 in
    let least = (and_parts (nat_le 1 e.id) (nat_le e.id 1000000) id).0 in
    grind (arith, nat_tests)

pub made_alike : (n : ℕ) (cables : List NamedCable) (sinks : List NamedSink) (events : List ScenarioEvent)
    → list_all (event_fits n) events ≡ true → ids_differ events ≡ true → (port : ℕ) (x y : EventData)
    → Contains (events_for cables sinks port events) x → Contains (events_for cables sinks port events) y → SamePlace x y → x ≡ y
made_alike n cables sinks events fit differ port x y a b place =
    let left = filter_map_from (event_for cables sinks port) events x a in
    let right = filter_map_from (event_for cables sinks port) events y b in
    let first = from_one n left.of (passes (event_fits n) events left.of fit left.there) in
    let second = from_one n right.of (passes (event_fits n) events right.of fit right.there) in
    alike cables sinks port left.of.id right.of.id left.of.at right.of.at left.of.happening right.of.happening x y first second (
    λ ids. ap (λ (e : ScenarioEvent). e.happening) (one_id events left.of right.of differ left.there right.there ids)
    ) left.is right.is place

pub one_each : (n : ℕ) (cables : List NamedCable) (sinks : List NamedSink) (events : List ScenarioEvent)
    → list_all (event_fits n) events ≡ true → ids_differ events ≡ true → (port : ℕ) → AreOneEach (events_for cables sinks port events)
one_each n cables sinks events fit differ port =
    λ x y a b at number. made_alike n cables sinks events fit differ port x y a b (record { at = at; number = number })

script_is : (n : ℕ) (c : ScenarioData) → IsValid n c → (port : ℕ) → IsScript c port (script c.cables c.sinks c.events port)
unfolding script
script_is n c valid port =
    let made = events_for c.cables c.sinks port c.events in
    let same = made_alike n c.cables c.sinks c.events valid.events_fit valid.events_differ port in
    record {
      all = λ x. (
        λ h. elim (each_only [] made x h) [ inl early ↦ absurd (none x early) | inr later ↦ later ],
        λ h. each_all (λ e. Contains made e) same [] made (λ e nowhere. absurd (none e nowhere)) (λ e at. at) x
            (inr h),
      );
      in_order = λ i e f a b. adjacent (fold put [] made) i e f (InOrder-each [] made tt) a (rw (← add-one) b);
    }

-- ---- the plan

sum-floors : (xs : List SettingsData) → sum (map floor_of xs) ≡ sum_by (λ (s : SettingsData). s.floor_mw) xs * 1000
sum-floors [] = refl
sum-floors (x ∷ xs) =
    let rest = sum-floors xs in
    let left = sum_by-cons (λ (n : ℕ). n) (floor_of x) (map floor_of xs) in
    let right = sum_by-cons (λ (s : SettingsData). s.floor_mw) x xs in
    omega (arith, rest, left, right)

pub script_of-plan_of : (c : ScenarioData) (p : ℕ) → p < length c.settings → script_of (plan_of c) p ≡ script c.cables c.sinks c.events
    (p + 1)
unfolding plan_of
script_of-plan_of c p h = get_or-map-range_with_len (script c.cables c.sinks c.events) 1 (length c.settings) p (p + 1) [] h (omega arith)

pub script_is_in_order : (n : ℕ) (c : ScenarioData) → IsValid n c → (p : ℕ) → p < n → IsScript c (p + 1) (script_of (plan_of c) p)
script_is_in_order n c valid p h =
    rw (script_of-plan_of c p (omega (arith, valid.settings_count))) (script_is n c valid (p + 1))

pub one_script : (c : ScenarioData) (port : ℕ) (events others : List EventData) → IsScript c port events → IsScript c port others
    → events ≡ others
one_script c port events others left right =
    one_order events others (from_adjacent events left.in_order) (from_adjacent others right.in_order)
    (λ x h. (right.all x).1 ((left.all x).0 h)) (λ x h. (left.all x).1 ((right.all x).0 h))

pub length-script : (n : ℕ) (c : ScenarioData) → IsValid n c → (port : ℕ) → length (script c.cables c.sinks c.events port) ≤ 4096
unfolding script
length-script n c valid port =
    let made = length-filter_map (event_for c.cables c.sinks port) c.events in
    let put_each = length-each [] (events_for c.cables c.sinks port c.events) in
    omega (arith, made, put_each, valid.few_events)

no_script : (n : ℕ) (c : ScenarioData) → IsValid n c → (p : ℕ) → n ≤ p → script_of (plan_of c) p ≡ []
unfolding plan_of
no_script n c valid p h =
    let scripts = length-map-range_with_len (script c.cables c.sinks c.events) 1 (length c.settings) in
    get_or_past (map (script c.cables c.sinks c.events) (range_with_len 1 (length c.settings))) p []
    (omega (arith, scripts, valid.settings_count))

nothing : (i : ℕ) (e : EventData) → slice_get [] i ≡ Some e → ⊥
nothing i e h = cc

-- what has a greater number than another event is no change of the budget
no_change : (k : ℕ) (h : Happening) → k < number_of h → is_change h ≡ false
no_change k (Port id kind) lt = refl
no_change k happens.Budget lt = absurd (omega (arith, lt))

followed : (e f : EventData) → ComesBefore e f → IsFollowedBy e f
followed e f h = ⊎_elim (λ (before : e.at < f.at). inl before)
    (λ (same : (e.at ≡ f.at) × (number_of e.happening < number_of f.happening)).
    inr (same.0, no_change (number_of e.happening) f.happening same.1)) h

scripts_in_order : (n : ℕ) (c : ScenarioData) → IsValid n c → (p i : ℕ) (e f : EventData) → slice_get (script_of (plan_of c) p) i ≡ Some e
    → slice_get (script_of (plan_of c) p) (i + 1) ≡ Some f → IsFollowedBy e f
scripts_in_order n c valid p i e f a b =
    elim (cases_lt p n) [
      | inl inside ↦ followed e f ((script_is_in_order n c valid p inside).in_order i e f a b)
      | inr outside ↦ absurd (nothing i e (rw (no_script n c valid p outside) at a))
    ]

-- ---- the budget

-- what a change of the budget is, by its event
record Changes (h : ScenarioHappening) (at : ℕ) (change : BudgetChange) : Type 0 where
  mw : ℕ
  is : budget_in h ≡ Some mw
  budget : change.budget ≡ mw * 1000
  few : mw ≤ 1000000
  time : change.at ≡ at

changes_by : (n id at : ℕ) (h : ScenarioHappening) (change : BudgetChange) → happening_fits n h ≡ true → change_in id at h ≡ Some change
    → Changes h at change
changes_by n id at (OnPort port kind) change fits is = absurd (nothing_is change is)
changes_by n id at (Budget mw) change fits is =
    let same = unwrapped (record { id = id; at = at; budget = mw * 1000 }) change is in
    let most = (and_parts (nat_le 500 mw) (nat_le mw 1000000) fits).1 in
    record {
      mw = mw;
      is = refl;
      budget = sym (ap (λ (c : BudgetChange). c.budget) same);
      few = grind (arith, nat_tests);
      time = sym (ap (λ (c : BudgetChange). c.at) same);
    }

changes : (n : ℕ) (e : ScenarioEvent) (change : BudgetChange) → event_fits n e ≡ true → change_of e ≡ Some change
    → Changes e.happening e.at change
changes n e change fits is =
    changes_by n e.id e.at e.happening change
    ((and_parts (allows quantity.EventId e.id && allows quantity.Time e.at) (happening_fits n e.happening) fits).1) is

-- each change leaves room for the floors
record Funds (c : ScenarioData) (budget : ℕ) : Type 0 where
  enough : sum (map floor_of c.settings) ≤ budget
  few : budget ≤ 1000000000

plan_funds : (n : ℕ) (c : ScenarioData) → IsValid n c → Funds c (c.budget_mw * 1000)
plan_funds n c valid =
    let floors = sum-floors c.settings in
    let least = least_first (filter_map budget_of c.events) c.budget_mw in
    let most = (and_parts (nat_le 500 c.budget_mw) (nat_le c.budget_mw 1000000) valid.budget_fits).1 in
    let few : c.budget_mw ≤ 1000000 = grind (arith, nat_tests) in
    record { enough = omega (arith, floors, least, valid.funded); few = omega (arith, few) }

change_funds : (n : ℕ) (c : ScenarioData) → IsValid n c → (change : BudgetChange) → Contains (changes_of c.events) change
    → Funds c change.budget
change_funds n c valid change there =
    let from = filter_map_from change_of c.events change there in
    let made = changes n from.of change (passes (event_fits n) c.events from.of valid.events_fit from.there) from.is in
    let floors = sum-floors c.settings in
    let least = least_of (filter_map budget_of c.events) c.budget_mw made.mw
    (filter_map_has budget_of c.events from.of made.mw from.there made.is) in
    record { enough = omega (arith, floors, least, valid.funded, made.budget); few = omega (arith, made.budget, made.few) }

after : (P : ℕ → Type 0) (budget : ℕ) (last : Option BudgetChange) → P budget
    → ((change : BudgetChange) → last ≡ Some change → P change.budget) → P (budget_after budget last)
after P budget None plain changed = plain
after P budget (Some change) plain changed = changed change refl

force_funds : (n : ℕ) (c : ScenarioData) → IsValid n c → (at : ℕ) → Funds c (force (plan_of c) at)
unfolding force plan_of
force_funds n c valid at =
    after (Funds c) (c.budget_mw * 1000) (last_change (changes_of c.events) at) (plan_funds n c valid)
    (λ change is. change_funds n c valid change (last_is_there (changes_of c.events) at change is))

-- each change is told to each port
told_by : (cables : List NamedCable) (sinks : List NamedSink) (port id at : ℕ) (h : ScenarioHappening) (mw : ℕ) (change : BudgetChange)
    → budget_in h ≡ Some mw → change.at ≡ at
    → option_map (λ (happening : Happening). record { at = at; happening = happening }) (seen_by cables sinks port id h) ≡ Some
    (told_at change.at)
told_by cables sinks port id at (OnPort p k) mw change is times = absurd (nothing_is mw is)
told_by cables sinks port id at (Budget nw) mw change is times = rw (← times) refl

told : (n : ℕ) (c : ScenarioData) → IsValid n c → (p : ℕ) → p < n → (change : BudgetChange) → Contains (changes_of c.events) change
    → Contains (script_of (plan_of c) p) (told_at change.at)
told n c valid p h change there =
    let from = filter_map_from change_of c.events change there in
    let made = changes n from.of change (passes (event_fits n) c.events from.of valid.events_fit from.there) from.is in
    let event = told_by c.cables c.sinks (p + 1) from.of.id from.of.at from.of.happening made.mw change made.is made.time in
    ((script_is_in_order n c valid p h).all (told_at change.at)).1
    (filter_map_has (event_for c.cables c.sinks (p + 1)) c.events from.of (told_at change.at) from.there event)

soon : (end : ℕ) → allows quantity.Time end ≡ true → end ≤ 120000000
soon end h = grind (arith, nat_tests)

pub valid_is_plan : (n : ℕ) (c : ScenarioData) → IsValid n c → IsPlan n (plan_of c)
unfolding plan_of
valid_is_plan n c valid = record {
  settings_count = valid.settings_count;
  scripts_count = length-map-range_with_len (script c.cables c.sinks c.events) 1 (length c.settings) ∙ valid.settings_count;
  some_port = valid.some_port;
  few_ports = valid.few_ports;
  funded = (plan_funds n c valid).enough;
  most_budget = (plan_funds n c valid).few;
  always_funded = λ at. (force_funds n c valid at).enough;
  most_force = λ at. (force_funds n c valid at).few;
  soon = soon c.end_us valid.end_fits;
  brief = λ p h. (let short = length-script n c valid (p + 1) in
      rw (script_of-plan_of c p (omega (arith, valid.settings_count))) (omega (arith, short)));
  in_order = scripts_in_order n c valid;
  told = told n c valid;
}
