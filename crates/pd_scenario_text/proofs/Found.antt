-- Names and ids in a set of those that came before.
use Rattle.std.proofs.Common.{◌≡◌, ℕ, ◌+◌, ◌<◌, Bool, true, false, not, ◌||◌, ◌&&◌, ◌==◌, List, [], ◌∷◌, ◌++◌, length, map, take, drop}
use Rattle.std.proofs.Common.{get_or, refl, sym, ap, ◌∙◌, inl, inr, arith, Bor, nat_cmp, Some}
use Rattle.std.specs.Prelude.{bytes_eq, is_some}
use Rattle.std.specs.List.{list_any, list_all}
use Rattle.std.specs.Ordering.{is_eq}
use Rattle.std.specs.declared.cmp.Ordering.TheVariants.{Equal}
use Rattle.std.specs.Cmp.Lexicographic.{slice_cmp}
use Rattle.std.specs.BTreeSet.{BTreeSet, insert_key}
use Rattle.std.proofs.lemmas.Bool.{cases_Bool}
use Rattle.std.proofs.lemmas.Bool.Decides.{nat_tests}
use Rattle.std.proofs.lemmas.List.{take_more, map-append, take-append-drop}
use Rattle.std.proofs.lemmas.Map.Text.{is_eq-slice_cmp}
use Rattle.std.proofs.lemmas.Slice.Eq.{bytes_eq-Decides}
use Rattle.pd_scenario.specs.Scenarios.{names_differ, has_id, ids_differ, cable_named, sink_named, kind_is_known, names_are_known}
use Rattle.pd_scenario.specs.declared.named.NamedCable.{NamedCable}
use Rattle.pd_scenario.specs.declared.named.NamedSink.{NamedSink}
use Rattle.pd_scenario.specs.Events.{ScenarioEventKind}
use Rattle.pd_setup.specs.declared.event.EventKind.TheVariants.{Attach}
use Rattle.pd_scenario.specs.declared.event.ScenarioHappening.{ScenarioHappening}
use Rattle.pd_scenario.specs.declared.event.ScenarioHappening.TheVariants.{OnPort, Budget}
use Rattle.pd_scenario.specs.declared.event.ScenarioEvent.{ScenarioEvent}
use Rattle.pd_scenario_text.specs.Names.{texts, cable_names, sink_names, Has, kind_is_in, is_in, name_check}
use Rattle.pd_scenario_text.proofs.Differing.{list_any-last, list_any-same, differ, differ-part, differ-last, turn_from, insert_has}
use Rattle.pd_scenario_tables.proofs.Members.{list_any-map}

-- ---- the definitions as one

names_are : (xs : List (List ℕ)) → names_differ xs ≡ differ bytes_eq xs
names_are [] = refl
names_are (x ∷ xs) = ap (λ b. not (list_any (λ other. bytes_eq other x) xs) && b) (names_are xs)

abbrev same_number : ℕ → ℕ → Bool
same_number a b = a == b

abbrev ids : List ScenarioEvent → List ℕ
ids events = map (λ (e : ScenarioEvent). e.id) events

id_is : (events : List ScenarioEvent) (id : ℕ) → has_id events id ≡ list_any (λ other. same_number other id) (ids events)
id_is events id = sym (list_any-map (λ other. same_number other id) (λ (e : ScenarioEvent). e.id) events)

ids_are : (events : List ScenarioEvent) → ids_differ events ≡ differ same_number (ids events)
ids_are [] = refl
ids_are (e ∷ events) = rw (id_is events e.id, ids_are events)

turn_texts : (a b : List ℕ) → bytes_eq a b ≡ bytes_eq b a
turn_texts a b = turn_from bytes_eq bytes_eq-Decides a b

turn_numbers : (a b : ℕ) → same_number a b ≡ same_number b a
turn_numbers a b = grind (arith, nat_tests)

-- ---- one more value

-- a value is new exactly where the values with it differ
one_more : (d m is_new : Bool) → d ≡ true → is_new ≡ not m → (d && not m) ≡ is_new
one_more d m is_new first is = rw (first, is)

pub name_differs : (xs : List (List ℕ)) (keys : List (Bor (List ℕ))) (k : Bor (List ℕ)) (is_new : Bool) → names_differ xs ≡ true
    → ((name : List ℕ) → list_any (λ (o : Bor (List ℕ)). bytes_eq name o.now) keys ≡ list_any (λ other. bytes_eq other name) xs)
    → is_new ≡ not (list_any (λ (o : Bor (List ℕ)). is_eq (slice_cmp nat_cmp k.now o.now)) keys) → names_differ (xs ++ k.now ∷ []) ≡ is_new
name_differs xs keys k is_new first has is =
    let there : list_any (λ (o : Bor (List ℕ)). is_eq (slice_cmp nat_cmp k.now o.now)) keys ≡ list_any (λ other. bytes_eq other k.now) xs =
    list_any-same (λ (o : Bor (List ℕ)). is_eq (slice_cmp nat_cmp k.now o.now)) (λ (o : Bor (List ℕ)). bytes_eq k.now o.now)
    (λ o. is_eq-slice_cmp k.now o.now) keys ∙ has k.now
    in
    names_are (xs ++ k.now ∷ []) ∙ differ-last bytes_eq turn_texts xs k.now
    ∙ one_more (differ bytes_eq xs) (list_any (λ other. bytes_eq other k.now) xs) is_new (sym (names_are xs) ∙ first) (is ∙ ap not there)

equal_texts : (k x : Bor (List ℕ)) → slice_cmp nat_cmp k.now x.now ≡ Equal → k.now ≡ x.now
equal_texts k x h = (bytes_eq-Decides k.now x.now).0 (sym (is_eq-slice_cmp k.now x.now) ∙ ap is_eq h)

commuted : (a b : Bool) → (a || b) ≡ (b || a)
commuted true true = refl
commuted true false = refl
commuted false true = refl
commuted false false = refl

pub name_found : (xs : List (List ℕ)) (keys news : List (Bor (List ℕ))) (k : Bor (List ℕ))
    → ((name : List ℕ) → list_any (λ (o : Bor (List ℕ)). bytes_eq name o.now) keys ≡ list_any (λ other. bytes_eq other name) xs)
    → news ≡ insert_key (λ (x y : Bor (List ℕ)). slice_cmp nat_cmp x.now y.now) keys k
    → (name : List ℕ) → list_any (λ (o : Bor (List ℕ)). bytes_eq name o.now) news ≡ list_any (λ other. bytes_eq other name)
    (xs ++ k.now ∷ [])
name_found xs keys news k has is name =
    rw (
      is,
      insert_has (λ (x y : Bor (List ℕ)). slice_cmp nat_cmp x.now y.now) (λ (o : Bor (List ℕ)). bytes_eq name o.now)
          (λ a b h. ap (bytes_eq name) (equal_texts a b h)) keys k,
      has name,
      list_any-last (λ other. bytes_eq other name) xs k.now,
      turn_texts name k.now,
    )
    (commuted (bytes_eq k.now name) (list_any (λ other. bytes_eq other name) xs))

pub id_differs : (events : List ScenarioEvent) (keys : List ℕ) (e : ScenarioEvent) (is_new : Bool) → ids_differ events ≡ true
    → ((id : ℕ) → list_any (λ o. is_eq (nat_cmp id o)) keys ≡ has_id events id)
    → is_new ≡ not (list_any (λ o. is_eq (nat_cmp e.id o)) keys) → ids_differ (events ++ e ∷ []) ≡ is_new
id_differs events keys e is_new first has is =
    let there = has e.id ∙ id_is events e.id in
    let whole : ids (events ++ e ∷ []) ≡ ids events ++ e.id ∷ [] = map-append (λ (x : ScenarioEvent). x.id) events (e ∷ []) in
    ids_are (events ++ e ∷ []) ∙ ap (differ same_number) whole ∙ differ-last same_number turn_numbers (ids events) e.id
    ∙ one_more (differ same_number (ids events)) (list_any (λ other. same_number other e.id) (ids events)) is_new
    (sym (ids_are events) ∙ first) (is ∙ ap not there)

equal_numbers : (id a b : ℕ) → nat_cmp a b ≡ Equal → is_eq (nat_cmp id a) ≡ is_eq (nat_cmp id b)
equal_numbers id a b h = grind (arith, nat_tests)

same_is_eq : (a b : ℕ) → is_eq (nat_cmp a b) ≡ same_number b a
same_is_eq a b = grind (arith, nat_tests)

pub id_found : (events : List ScenarioEvent) (keys news : List ℕ) (e : ScenarioEvent)
    → ((id : ℕ) → list_any (λ o. is_eq (nat_cmp id o)) keys ≡ has_id events id)
    → news ≡ insert_key nat_cmp keys e.id → (id : ℕ) → list_any (λ o. is_eq (nat_cmp id o)) news ≡ has_id (events ++ e ∷ []) id
id_found events keys news e has is id =
    rw (
      is,
      insert_has nat_cmp (λ o. is_eq (nat_cmp id o)) (λ a b h. equal_numbers id a b h) keys e.id,
      has id,
      list_any-last
          (λ (x : ScenarioEvent). x.id == id) events e,
      same_is_eq id e.id,
    )
    (commuted (e.id == id) (has_id events id))

-- ---- a part of the names or ids that repeats one

pub names_part : (xs ys : List (List ℕ)) → names_differ xs ≡ false → names_differ (xs ++ ys) ≡ false
names_part xs ys h = names_are (xs ++ ys) ∙ differ-part bytes_eq xs ys (sym (names_are xs) ∙ h)

pub ids_part : (xs ys : List ScenarioEvent) → ids_differ xs ≡ false → ids_differ (xs ++ ys) ≡ false
ids_part xs ys h =
    ids_are (xs ++ ys) ∙ ap (differ same_number) (map-append (λ (x : ScenarioEvent). x.id) xs ys)
    ∙ differ-part same_number (ids xs) (ids ys) (sym (ids_are xs) ∙ h)

pub events_more : (events : List ScenarioEvent) (i : ℕ) (e : ScenarioEvent) → i < length events → e ≡ get_or events i e
    → take (i + 1) events ≡ take i events ++ e ∷ []
events_more events i e below is = take_more events i e below ∙ ap (λ (x : ScenarioEvent). take i events ++ x ∷ []) (sym is)

pub texts_whole : (names : List (Bor (List ℕ))) (i : ℕ) → texts (take i names) ++ texts (drop i names) ≡ texts names
texts_whole names i =
    sym (map-append (λ (name : Bor (List ℕ)). name.now) (take i names) (drop i names)) ∙ ap texts (take-append-drop i names)

-- ---- names that are there

cable_there : (cables : List NamedCable) (name : List ℕ) → is_some (cable_named cables name) ≡ list_any (λ other. bytes_eq other name)
    (cable_names cables)
cable_there [] name = refl
cable_there (cable ∷ cables) name =
    elim (cases_Bool (bytes_eq cable.name name)) [ inl here ↦ rw here | inr other ↦ rw other (cable_there cables name) ]

sink_there : (sinks : List NamedSink) (name : List ℕ) → is_some (sink_named sinks name) ≡ list_any (λ other. bytes_eq other name)
    (sink_names sinks)
sink_there [] name = refl
sink_there (sink ∷ sinks) name =
    elim (cases_Bool (bytes_eq sink.name name)) [ inl here ↦ rw here | inr other ↦ rw other (sink_there sinks name) ]

known_kind : (cables : List NamedCable) (sinks : List NamedSink) (in_cables in_sinks : BTreeSet (Bor (List ℕ)))
    → Has (cable_names cables) in_cables → Has (sink_names sinks) in_sinks
    → (kind : ScenarioEventKind) → kind_is_in in_cables in_sinks kind ≡ kind_is_known cables sinks kind
known_kind cables sinks in_cables in_sinks c s (Attach cable sink) = rw (c cable, s sink, cable_there cables cable, sink_there sinks sink)
known_kind cables sinks in_cables in_sinks c s _ = refl

known_happening : (cables : List NamedCable) (sinks : List NamedSink) (in_cables in_sinks : BTreeSet (Bor (List ℕ)))
    → Has (cable_names cables) in_cables → Has (sink_names sinks) in_sinks
    → (h : ScenarioHappening) → is_in in_cables in_sinks h ≡ names_are_known cables sinks h
known_happening cables sinks in_cables in_sinks c s (OnPort port kind) = known_kind cables sinks in_cables in_sinks c s kind
known_happening cables sinks in_cables in_sinks c s (Budget mw) = refl

all_known : (cables : List NamedCable) (sinks : List NamedSink) (in_cables in_sinks : BTreeSet (Bor (List ℕ)))
    → Has (cable_names cables) in_cables → Has (sink_names sinks) in_sinks
    → (events : List ScenarioEvent) → list_all (λ (e : ScenarioEvent). is_in in_cables in_sinks e.happening) events ≡ list_all
    (λ (e : ScenarioEvent). names_are_known cables sinks e.happening) events
all_known cables sinks in_cables in_sinks c s [] = refl
all_known cables sinks in_cables in_sinks c s (e ∷ events) =
    rw (known_happening cables sinks in_cables in_sinks c s e.happening, all_known cables sinks in_cables in_sinks c s events)

pub checked : (cables : List NamedCable) (sinks : List NamedSink) (events : List ScenarioEvent)
    (in_cables in_sinks : BTreeSet (Bor (List ℕ))) (known : Bool) → Has (cable_names cables) in_cables → Has (sink_names sinks) in_sinks
    → names_differ (cable_names cables) ≡ true → names_differ (sink_names sinks) ≡ true → ids_differ events ≡ true
    → known ≡ list_all (λ (e : ScenarioEvent). is_in in_cables in_sinks e.happening) events → Some known ≡ name_check cables sinks events
checked cables sinks events in_cables in_sinks known c s cd sd ed is =
    rw (cd, sd, ed, is) (ap (λ (b : Bool). Some b) (all_known cables sinks in_cables in_sinks c s events))

pub events_whole : (events : List ScenarioEvent) (i : ℕ) → take i events ++ drop i events ≡ events
events_whole events i = take-append-drop i events

-- one more text, read by a place
pub texts_next : (names : List (Bor (List ℕ))) (i : ℕ) (d : Bor (List ℕ)) → i < length names
    → texts (take (i + 1) names) ≡ texts (take i names) ++ (get_or names i d).now ∷ []
texts_next names i d below =
    ap texts (take_more names i d below) ∙ map-append (λ (name : Bor (List ℕ)). name.now) (take i names) (get_or names i d ∷ [])

-- what stands in the place of no text
abbrev pub no_text : Bor (List ℕ)
no_text = record { ref_ptr = (0, 0); now = [] }
