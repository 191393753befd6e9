-- Events that are handed out to lists.
use Rattle.std.proofs.Common.{◌≡◌, ℕ, zero, suc, ◌<◌, ◌≤◌, ◌+◌, ◌&&◌, List, [], ◌∷◌, ◌++◌, length, map, fold, take}
use Rattle.std.proofs.Common.{drop, get_or, refl, sym, ap, ◌∙◌, arith}
use Rattle.std.proofs.Common.{Vec, Global, true, false}
use Rattle.std.specs.Prelude.{◌==◌, replicate}
use Rattle.std.specs.List.{range_with_len}
use Rattle.std.specs.Option.{option_to_list}
use Rattle.std.proofs.lemmas.Bool.{and_parts}
use Rattle.std.proofs.lemmas.Bool.Decides.{nat_tests}
use Rattle.std.specs.Prelude.{slice_set, slice_index_or}
use Rattle.std.proofs.lemmas.List.{map-set, get_or-map, length-map, length-set, append-nil}
use Rattle.std.proofs.lemmas.List.Edits.{map_over_more}
use Rattle.std.proofs.lemmas.List.FromFn.{get_or-map-range_with_len, length-map-range_with_len}
use Rattle.pd_setup.specs.Events.{EventData}
use Rattle.pd_setup.specs.declared.event.Event.{Event}
use Rattle.pd_setup.specs.declared.event.Happening.TheVariants as happens
use Rattle.pd_scenario.specs.declared.named.NamedCable.{NamedCable}
use Rattle.pd_scenario.specs.declared.named.NamedSink.{NamedSink}
use Rattle.pd_scenario.specs.Events.{ScenarioEventKind}
use Rattle.pd_scenario.specs.declared.event.ScenarioEvent.{ScenarioEvent}
use Rattle.pd_scenario.specs.declared.event.ScenarioHappening.TheVariants.{OnPort, Budget}
use Rattle.pd_scenario.specs.declared.limits.Quantity.TheVariants as quantity
use Rattle.pd_scenario.specs.Limits.{allows, is_port}
use Rattle.pd_scenario.specs.Scenarios.{event_fits, happening_fits, kind_fits}
use Rattle.pd_scenario.specs.Script.{event_for, events_for, handed_out, put, resolved, script}
use Rattle.pd_scenario.proofs.Lists.{filter_map-more}

-- the events of each list
abbrev pub items_of : List (Vec Event Global) → List (List EventData)
items_of lists = map (λ s. s.items) lists

-- with one event more in a list
abbrev pub with_more : List (List EventData) → ℕ → EventData → List (List EventData)
with_more lists place e = slice_set lists place (slice_index_or lists place [] ++ e ∷ [])

pub set_push : (lists : List (Vec Event Global)) (place : ℕ) (d v : Vec Event Global) (e : EventData) → place < length lists
    → v.items ≡ (get_or lists place d).items ++ e ∷ [] → items_of (slice_set lists place v) ≡ with_more (items_of lists) place e
set_push lists place d v e within is =
    map-set (λ (s : Vec Event Global). s.items) lists place v
    ∙ ap (slice_set (items_of lists) place)
    (is ∙ ap (λ xs. xs ++ e ∷ []) (sym (get_or-map (λ (s : Vec Event Global). s.items) lists place d [] within)))

same_read : {X : Type 0} (xs : List X) (i : ℕ) (d e : X) → i < length xs → get_or xs i d ≡ get_or xs i e
same_read [] i d e h = absurd (omega (arith, h))
same_read (x ∷ xs) zero d e h = refl
same_read (x ∷ xs) (suc i) d e h = same_read xs i d e (omega (arith, h))

-- as many lists as before
pub as_many : (lists news : List (Vec Event Global)) (place : ℕ) (e : EventData) → items_of news ≡ with_more (items_of lists) place e
    → length news ≡ length lists
as_many lists news place e is =
    sym (length-map news (λ s. s.items)) ∙ ap length is
    ∙ length-set (items_of lists) place (slice_index_or (items_of lists) place [] ++ e ∷ []) ∙ length-map lists (λ s. s.items)

-- one list more has the event
pub written_more : (olds lists : List (List EventData)) (place : ℕ) (e : EventData) → place < length olds → place < length lists
    → lists ≡ map (λ events. events ++ e ∷ []) (take place olds) ++ drop place olds
    → with_more lists place e ≡ map (λ events. events ++ e ∷ []) (take (place + 1) olds) ++ drop (place + 1) olds
written_more olds lists place e within inside is =
    map_over_more (λ events. events ++ e ∷ []) olds lists place (get_or lists place []) within is
    (same_read lists place [] (get_or lists place []) inside)

-- ---- an event of one port

untouched : (cables : List NamedCable) (sinks : List NamedSink) (e : ScenarioEvent) (other : ℕ) (kind : ScenarioEventKind)
    → e.happening ≡ OnPort other kind → (port : ℕ) → (other == port) ≡ false → option_to_list (event_for cables sinks port e) ≡ []
untouched cables sinks e other kind is port differs = rw (is, differs) refl

touched : (cables : List NamedCable) (sinks : List NamedSink) (e : ScenarioEvent) (other : ℕ) (kind : ScenarioEventKind)
    → e.happening ≡ OnPort other kind → (port : ℕ) → (other == port) ≡ true
    → option_to_list (event_for cables sinks port e)
    ≡ record { at = e.at; happening = happens.Port e.id (resolved cables sinks kind) } ∷ []
touched cables sinks e other kind is port same = rw (is, same) refl

differ : (a b : ℕ) → a < b → (a == b) ≡ false
differ a b h = grind (arith, nat_tests)

same : (a b : ℕ) → a ≡ b → (a == b) ≡ true
same a b h = grind (arith, nat_tests)

differ_too : (a b : ℕ) → b < a → (a == b) ≡ false
differ_too a b h = grind (arith, nat_tests)

past : (cables : List NamedCable) (sinks : List NamedSink) (e : ScenarioEvent) (other : ℕ) (kind : ScenarioEventKind)
    → e.happening ≡ OnPort other kind → (from : ℕ) (lists : List (List EventData)) → other < from
    → handed_out cables sinks e from lists ≡ lists
past cables sinks e other kind is from [] h = refl
past cables sinks e other kind is from (x ∷ xs) h =
    rw (
      untouched cables sinks e other kind is from (differ other from h),
      append-nil x,
      past cables sinks e other kind is (from + 1) xs (omega (arith, h)),
    ) refl

pub handed_to : (cables : List NamedCable) (sinks : List NamedSink) (e : ScenarioEvent) (other : ℕ) (kind : ScenarioEventKind)
    → e.happening ≡ OnPort other kind → (from k : ℕ) (lists : List (List EventData)) → from + k ≡ other → k < length lists
    → with_more lists k (record { at = e.at; happening = happens.Port e.id (resolved cables sinks kind) })
    ≡ handed_out cables sinks e from lists
handed_to cables sinks e other kind is from k [] there within = absurd (omega (arith, within))
handed_to cables sinks e other kind is from zero (x ∷ xs) there within =
    rw (
      touched cables sinks e other kind is from (same other from (omega (arith, there))),
      past cables sinks e other kind is (from + 1) xs (omega (arith, there)),
    ) refl
handed_to cables sinks e other kind is from (suc k) (x ∷ xs) there within =
    rw (
      untouched cables sinks e other kind is from (differ_too other from (omega (arith, there))),
      append-nil x,
      ← handed_to cables sinks e other kind is (from + 1) k xs (omega (arith, there)) (omega (arith, within)),
    ) refl

-- ---- a change of the budget
pub handed_to_all : (cables : List NamedCable) (sinks : List NamedSink) (e : ScenarioEvent) (mw : ℕ) → e.happening ≡ Budget mw → (from : ℕ)
    (lists : List (List EventData))
    → map (λ events. events ++ record { at = e.at; happening = happens.Budget } ∷ []) lists ≡ handed_out cables sinks e from lists
handed_to_all cables sinks e mw is from [] = refl
handed_to_all cables sinks e mw is from (x ∷ xs) = rw (← handed_to_all cables sinks e mw is (from + 1) xs, is) refl

-- ---- all events of some ports
pub handed_more : (cables : List NamedCable) (sinks : List NamedSink) (events : List ScenarioEvent) (i : ℕ) (e : ScenarioEvent)
    → i < length events → e ≡ get_or events i e → (from n : ℕ)
    → handed_out cables sinks e from (map (λ port. events_for cables sinks port (take i events)) (range_with_len from n))
    ≡ map (λ port. events_for cables sinks port (take (i + 1) events)) (range_with_len from n)
handed_more cables sinks events i e within is from zero = refl
handed_more cables sinks events i e within is from (suc n) =
    rw (
      filter_map-more (event_for cables sinks from) events i e within is,
      handed_more cables sinks events i e within is (from + 1) n,
    ) refl

pub none_yet : (cables : List NamedCable) (sinks : List NamedSink) (from n : ℕ)
    → replicate n [] ≡ map (λ port. events_for cables sinks port []) (range_with_len from n)
none_yet cables sinks from zero = refl
none_yet cables sinks from (suc n) = rw (none_yet cables sinks (from + 1) n) refl

-- an event's port is one of them
pub port_within : (n port : ℕ) (kind : ScenarioEventKind) (e : ScenarioEvent) → e.happening ≡ OnPort port kind → event_fits n e ≡ true
    → (1 ≤ port) × (port ≤ n)
port_within n port kind e is fits =
    let both = (and_parts (allows quantity.EventId e.id && allows quantity.Time e.at) (happening_fits n e.happening) fits).1 in
    let known : happening_fits n (OnPort port kind) ≡ true = rw is at both in
    let inside = (and_parts (is_port n port) (kind_fits kind) known).0 in
    (grind (arith, nat_tests, inside), grind (arith, nat_tests, inside))

-- ---- lists that are taken one after the other

at_middle : (ys rest : List (Vec Event Global)) (x : Vec Event Global) → get_or (items_of (ys ++ x ∷ rest)) (length ys) [] ≡ x.items
at_middle [] rest x = refl
at_middle (y ∷ ys) rest x = at_middle ys rest x

length_middle : (ys rest : List (Vec Event Global)) (x : Vec Event Global) → length ys < length (items_of (ys ++ x ∷ rest))
length_middle [] rest x = omega arith
length_middle (y ∷ ys) rest x = let shorter = length_middle ys rest x in omega (arith, shorter)

pub one_of : (made : ℕ → List EventData) (ys rest : List (Vec Event Global)) (x : Vec Event Global) (from n : ℕ)
    → items_of (ys ++ x ∷ rest) ≡ map made (range_with_len from n) → x.items ≡ made (from + length ys)
one_of made ys rest x from n is =
    let inside = length_middle ys rest x in
    let count = ap length is ∙ length-map-range_with_len made from n in
    sym (at_middle ys rest x) ∙ ap (λ zs. get_or zs (length ys) []) is
    ∙ get_or-map-range_with_len made from n (length ys) (from + length ys) [] (omega (arith, inside, count)) refl

-- each list in its order is the script of its port
pub are_scripts : (cables : List NamedCable) (sinks : List NamedSink) (events : List ScenarioEvent) (from n : ℕ)
    → map (fold put []) (map (λ port. events_for cables sinks port events) (range_with_len from n))
    ≡ map (script cables sinks events) (range_with_len from n)
unfolding script
are_scripts cables sinks events from zero = refl
are_scripts cables sinks events from (suc n) = rw (are_scripts cables sinks events (from + 1) n) refl

pub empty : (xs : List (Vec Event Global)) → length xs ≡ 0 → xs ≡ []
empty [] h = refl
empty (x ∷ xs) h = absurd (omega (arith, h))
