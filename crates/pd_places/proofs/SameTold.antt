-- Refusal 7 is told exactly where it applies to a file to which none up to the names does.
use Rattle.std.proofs.Common.{◌≡◌, ℕ, ◌+◌, ◌<◌, ◌≤◌, Bool, true, false, not, ◌&&◌, ◌==◌, cond, List, [], ◌∷◌, ◌++◌, codes, decimal}
use Rattle.std.proofs.Common.{length, map, refl, sym, ap, ◌∙◌, subst, arith, inl, inr, Some, append_assoc}
use Rattle.std.specs.Prelude.{nat_lt, bytes_eq}
use Rattle.std.specs.List.{list_any, list_all, position_from}
use Rattle.std.proofs.lemmas.Bool.{false≢true, cases_Bool, and_parts}
use Rattle.std.proofs.lemmas.Bool.Decides.{nat_tests}
use Rattle.std.proofs.lemmas.List.{append-nil}
use Rattle.std.proofs.lemmas.Simd.{map-map}
use Rattle.std.proofs.lemmas.Slice.Eq.{bytes_eq-Decides}
use Rattle.pd_misfits.specs.Spots.{SpotData}
use Rattle.toml.specs.Data.{Members}
use Rattle.pd_scenario.specs.Limits.{allows}
use Rattle.pd_scenario.specs.Scenarios.{names_differ, ids_differ, happening_fits}
use Rattle.pd_scenario.specs.declared.limits.Quantity.TheVariants as quantity
use Rattle.pd_scenario.specs.declared.named.NamedCable.{NamedCable}
use Rattle.pd_scenario.specs.declared.named.NamedSink.{NamedSink}
use Rattle.pd_scenario.specs.declared.event.ScenarioEvent.{ScenarioEvent}
use Rattle.pd_scenario_tables.specs.declared.schema.Version.{Version}
use Rattle.pd_scenario_tables.specs.declared.schema.TableKind.TheVariants.{Cable, Sink}
use Rattle.pd_scenario_tables.specs.declared.schema.Key.{Key}
use Rattle.pd_scenario_tables.specs.declared.schema.Key.TheVariants as key
use Rattle.pd_scenario_tables.specs.Tables.{word_at, is_sound, is_sound_event}
use Rattle.pd_scenario_tables.specs.Convert.{cable_of, sink_of, event_of}
use Rattle.pd_scenario_tables.proofs.Members.{list_any-map}
use Rattle.pd_scenario_tables.proofs.Parts.{cable_named, sink_named}
use Rattle.pd_scenario_tables.proofs.Events.{event_fit}
use Rattle.pd_scenario_text.specs.FileTables.{Tables, scenario_of}
use Rattle.pd_scenario_text.specs.Refusals.{has_duplicate}
use Rattle.pd_scenario_text.proofs.Decided.{Clean}
use Rattle.pd_scenario_text.proofs.Differing.{differ, differ-part, differ-last, turn_from}
use Rattle.pd_scenario_text.proofs.Valid.{sound_cables, sound_sinks, sound_events}
use Rattle.pd_scenario_tables.specs.Schema.{text_of}
use Rattle.pd_misfits.specs.Values.{quoted}
use Rattle.pd_misfits.specs.Lines.{table_spot}
use Rattle.pd_places.specs.Numbered.{numbered}
use Rattle.pd_places.specs.Same.{same_sentence, same_part, same_names_text, same_ids_text, names_of, ids_of, same_text}
use Rattle.pd_places.proofs.Told.{Told, begins_of, begins_on, or_told, if_told}
use Rattle.pd_places.proofs.TablesTold.{numbered_told}
use Rattle.pd_places.proofs.Seen.{position_here, not_less}
use Rattle.pd_places.proofs.KnownTold.{name_there}

-- ---- the first that passes a test, among some and others behind them

position_before : {V : Type 0} (p : V → Bool) (i : ℕ) (before rest : List V) → list_any p before ≡ true
    → (j : ℕ) × (position_from p i (before ++ rest) ≡ Some j) × (j < i + length before)
position_before p i [] rest h = absurd (false≢true h)
position_before p i (x ∷ xs) rest h =
    elim (cases_Bool (p x)) [
      | inl here ↦ (i, rw here refl, omega arith)
      | inr other ↦
          let later : list_any p xs ≡ true = rw other at h in
          let (j, is, less) = position_before p (i + 1) xs rest later in
          (j, rw other is, omega (arith, less))
    ]

-- ---- a value that stands at an earlier table is told

less_is : (a b : ℕ) → a < b → nat_lt a b ≡ true
less_is a b h = grind (arith, nat_tests)

same_told : (spot : SpotData) (word : List ℕ) (k : Key) (value : List ℕ) (number j : ℕ)
    → Told spot (nat_lt (j + 1) number) (same_part spot word k value number (Some j))
same_told spot word k value number j =
    numbered_told spot word number _ _
    (if_told (table_spot spot word number) (nat_lt (j + 1) number) (text_of k) (same_sentence k value word (j + 1)) [])

at_told : {V : Type 0} (spot : SpotData) (word : List ℕ) (k : Key) (value : List ℕ) (p : V
    → Bool) (before rest : List V) (x : V) → p x ≡ true
    → Told spot (list_any p before)
    (same_part spot word k value (length before + 1) (position_from p 0 (before ++ x ∷ rest)))
at_told spot word k value p before rest x own =
    elim (cases_Bool (list_any p before)) [
      | inl there ↦
          let (j, is, less) = position_before p 0 before (x ∷ rest) there in
          rw (there, is) (begins_of spot _ _ (same_told spot word k value (length before + 1) j)
          (less_is (j + 1) (length before + 1) (omega (arith, less))))
      | inr none ↦
          let j = 0 + length before in
          rw (none, position_here p 0 before rest x none own)
          (subst (λ b. Told spot b (same_part spot word k value (length before + 1) (Some j)))
          (not_less (j + 1) (length before + 1) (omega arith)) (same_told spot word k value (length before + 1) j))
    ]

one_more : {V : Type 0} (xs : List V) (x : V) → length (xs ++ x ∷ []) ≡ length xs + 1
one_more [] x = refl
one_more (y ∷ ys) x = let h = one_more ys x in omega (arith, h)

-- ---- values that differ

abbrev part_of : {V : Type 0} → (V → V → Bool) → (V → Bool) → (V → List ℕ) → SpotData → List ℕ → Key → List V → ℕ → V → List ℕ
part_of eq good value spot word k all number x =
    cond (good x) (same_part spot word k (value x) number (position_from (λ other. eq other x) 0 all)) []

walk : {V : Type 0} (eq : V → V → Bool) (turn : (a b : V) → eq a b ≡ eq b a) (own : (a : V) → eq a a ≡ true) (good : V → Bool)
    (value : V → List ℕ) (spot : SpotData) (word : List ℕ) (k : Key) (before rest all : List V) → all ≡ before ++ rest
    → differ eq before ≡ true
    → list_all good rest ≡ true
    → Told spot (not (differ eq all)) (numbered (part_of eq good value spot word k all) (length before + 1) rest)
unfolding numbered
walk eq turn own good value spot word k before [] all is alone each =
    let whole : false ≡ not (differ eq all) = sym (ap (λ v. not (differ eq v)) (is ∙ append-nil before) ∙ ap not alone) in
    subst (λ b. Told spot b []) whole refl
walk {V} eq turn own good value spot word k before (x ∷ xs) all is alone each =
    let both = and_parts (good x) (list_all good xs) each in
    let there = list_any (λ other. eq other x) before in
    let part = part_of eq good value spot word k all in
    let number = length before + 1 in
    let here : Told spot there (part number x) =
    rw (is, both.0) (at_told spot word k (value x) (λ other. eq other x) before xs x (own x)) in
    let split : all ≡ (before ++ x ∷ []) ++ xs = is ∙ sym (append_assoc before (x ∷ []) xs) in
    let last : differ eq (before ++ x ∷ []) ≡ not there = differ-last eq turn before x ∙ ap (λ b. b && not there) alone in
    elim (cases_Bool there) [
      | inl again ↦
          let whole : differ eq all ≡ false = ap (λ v. differ eq v) split ∙ differ-part eq (before ++ x ∷ []) xs (last ∙ ap not again) in
          subst (λ b. Told spot b (part number x ++ numbered part (number + 1) xs)) (sym (ap not whole))
          (begins_on spot (part number x) (numbered part (number + 1) xs) (begins_of spot there (part number x) here again))
      | inr new ↦
          let none : part number x ≡ [] = subst (λ b. Told spot b (part number x)) new here in
          let more = walk eq turn own good value spot word k (before ++ x ∷ []) xs all split (last ∙ ap not new) both.1 in
          let next = subst (λ n. Told spot (not (differ eq all)) (numbered part (n + 1) xs)) (one_more before x) more in
          subst (λ v. Told spot (not (differ eq all)) (v ++ numbered part (number + 1) xs)) (sym none) next
    ]

-- ---- names

names_are : (xs : List (List ℕ)) → differ bytes_eq xs ≡ names_differ xs
names_are [] = refl
names_are (x ∷ xs) = ap (λ b. not (list_any (λ other. bytes_eq other x) xs) && b) (names_are xs)

abbrev some_text : List ℕ → Bool
some_text name = nat_lt 0 (length name)

names_told : (spot : SpotData) (word : List ℕ) (names : List (List ℕ)) → list_all some_text names ≡ true
    → Told spot (not (names_differ names)) (same_names_text spot word names)
names_told spot word names each =
    subst (λ b. Told spot (not b) (same_names_text spot word names)) (names_are names)
    (walk bytes_eq (λ a b. turn_from bytes_eq bytes_eq-Decides a b) (λ a. (bytes_eq-Decides a a).1 refl) some_text quoted spot word
    key.Name [] names names refl refl each)

-- ---- ids

abbrev same_number : ℕ → ℕ → Bool
same_number a b = a == b

ids_are : (events : List ScenarioEvent) → differ same_number (map (λ (e : ScenarioEvent). e.id) events) ≡ ids_differ events
ids_are [] = refl
ids_are (e ∷ events) = rw (list_any-map (λ other. same_number other e.id) (λ (x : ScenarioEvent). x.id) events, ids_are events) refl

turn_numbers : (a b : ℕ) → same_number a b ≡ same_number b a
turn_numbers a b = grind (arith, nat_tests)

own_number : (a : ℕ) → same_number a a ≡ true
own_number a = grind (arith, nat_tests)

abbrev some_number : ℕ → Bool
some_number id = nat_lt 0 id

ids_told : (spot : SpotData) (ids : List ℕ) → list_all some_number ids ≡ true
    → Told spot (not (differ same_number ids)) (same_ids_text spot ids)
ids_told spot ids each =
    walk same_number turn_numbers own_number some_number decimal spot (codes "event") key.Id [] ids ids refl refl each

-- ---- a file

all_of : {A B : Type 0} (p : A → Bool) (q : B → Bool) (f : A → B) → ((x : A) → p x ≡ true → q (f x) ≡ true) → (xs : List A)
    → list_all p xs ≡ true → list_all q (map f xs) ≡ true
all_of p q f each [] h = refl
all_of p q f each (x ∷ xs) h =
    let both = and_parts (p x) (list_all p xs) h in
    rw (each x both.0, all_of p q f each xs both.1) refl

some_id : (id : ℕ) → allows quantity.EventId id ≡ true → nat_lt 0 id ≡ true
some_id id h = grind (arith, nat_tests)

id_there : (version : Version) (ports : ℕ) (t : Members) → ports ≤ 8 → is_sound_event version ports t ≡ true
    → nat_lt 0 ((event_of version t).id) ≡ true
id_there version ports t few sound =
    let e = event_of version t in
    let fits = event_fit version ports t few sound in
    let numbers = and_parts (allows quantity.EventId e.id && allows quantity.Time e.at) (happening_fits ports e.happening) fits in
    some_id e.id ((and_parts (allows quantity.EventId e.id) (allows quantity.Time e.at) numbers.0).0)

cables_told : (spot : SpotData) (ports : ℕ) (d : Tables) → Clean ports d
    → Told spot (not (names_differ (map (λ (cable : NamedCable). cable.name) (map cable_of d.cables))))
    (same_names_text spot (codes "cable") (names_of d.cables))
cables_told spot ports d clean =
    rw (map-map (λ (cable : NamedCable). cable.name) cable_of d.cables)
    (names_told spot (codes "cable") (names_of d.cables)
    (all_of (is_sound d.version ports Cable) some_text (word_at key.Name)
    (λ t s. name_there (word_at key.Name t) (cable_named d.version ports t s)) d.cables (sound_cables ports d clean)))

sinks_told : (spot : SpotData) (ports : ℕ) (d : Tables) → Clean ports d
    → Told spot (not (names_differ (map (λ (sink : NamedSink). sink.name) (map sink_of d.sinks))))
    (same_names_text spot (codes "sink") (names_of d.sinks))
sinks_told spot ports d clean =
    rw (map-map (λ (sink : NamedSink). sink.name) sink_of d.sinks)
    (names_told spot (codes "sink") (names_of d.sinks)
    (all_of (is_sound d.version ports Sink) some_text (word_at key.Name)
    (λ t s. name_there (word_at key.Name t) (sink_named d.version ports t s)) d.sinks (sound_sinks ports d clean)))

events_told : (spot : SpotData) (ports : ℕ) (d : Tables) → ports ≤ 8 → Clean ports d
    → Told spot (not (ids_differ (map (event_of d.version) d.events))) (same_ids_text spot (ids_of d.events))
events_told spot ports d few clean =
    let ids = map-map (λ (e : ScenarioEvent). e.id) (event_of d.version) d.events in
    subst (λ b. Told spot (not b) (same_ids_text spot (ids_of d.events)))
    (ap (differ same_number) (sym ids) ∙ ids_are (map (event_of d.version) d.events))
    (ids_told spot (ids_of d.events)
    (all_of (is_sound_event d.version ports) some_number (λ t. (event_of d.version t).id)
    (λ t s. id_there d.version ports t few s) d.events (sound_events ports d clean)))

pub duplicates_told : (spot : SpotData) (ports : ℕ) (d : Tables) → ports ≤ 8 → Clean ports d
    → Told spot (has_duplicate (scenario_of d)) (same_text spot d)
unfolding has_duplicate same_text
duplicates_told spot ports d few clean =
    or_told spot _ _ _ _ (cables_told spot ports d clean)
    (or_told spot _ _ _ _ (sinks_told spot ports d clean) (events_told spot ports d few clean))
