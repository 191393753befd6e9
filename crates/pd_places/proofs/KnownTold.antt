-- Refusal 10 is told exactly where it applies to a file to which none up to the names does.
use Rattle.std.proofs.Common.{◌≡◌, ℕ, Bool, true, false, not, ◌&&◌, ◌||◌, ◌==◌, List, [], ◌∷◌, codes, length, map, refl, ap, subst, arith}
use Rattle.std.proofs.Common.{inl, inr}
use Rattle.std.specs.Prelude.{nat_lt, nat_le, is_some, bytes_eq}
use Rattle.std.specs.List.{list_any, list_all}
use Rattle.std.specs.Char.{is_ascii_alphanumeric}
use Rattle.std.proofs.lemmas.Bool.{cases_Bool, and_parts}
use Rattle.std.proofs.lemmas.Bool.Decides.{nat_tests}
use Rattle.pd_misfits.specs.Spots.{SpotData}
use Rattle.toml.specs.Data.{Members}
use Rattle.pd_setup.specs.Events.{KindWord}
use Rattle.pd_setup.specs.declared.event.EventKind.TheVariants.{Attach}
use Rattle.pd_scenario.specs.Names.{is_name}
use Rattle.pd_scenario.specs.Scenarios.{cable_named, sink_named, kind_is_known, names_are_known}
use Rattle.pd_scenario.specs.declared.event.ScenarioEvent.{ScenarioEvent}
use Rattle.pd_scenario_tables.specs.declared.schema.Version.{Version}
use Rattle.pd_scenario_tables.specs.declared.schema.EventName.{EventName}
use Rattle.pd_scenario_tables.specs.declared.schema.EventName.TheVariants as event
use Rattle.pd_scenario_tables.specs.declared.schema.TableKind.TheVariants.{Event}
use Rattle.pd_scenario_tables.specs.declared.schema.Key.{Key}
use Rattle.pd_scenario_tables.specs.declared.schema.Key.TheVariants as key
use Rattle.pd_scenario_tables.specs.Tables.{word_at, event_at, is_sound, is_sound_event}
use Rattle.pd_scenario_tables.specs.Convert.{cable_of, sink_of, kind_in, happening_of, event_of}
use Rattle.pd_scenario_tables.proofs.Parts.{attach_named}
use Rattle.pd_scenario_text.specs.FileTables.{Tables, scenario_of}
use Rattle.pd_scenario_text.specs.Refusals.{has_unknown_name}
use Rattle.pd_scenario_text.proofs.Decided.{Clean}
use Rattle.pd_scenario_text.proofs.Valid.{sound_events}
use Rattle.pd_places.specs.Same.{names_of}
use Rattle.pd_scenario_tables.specs.Schema.{text_of}
use Rattle.pd_hints.specs.Slips.{meant_text, nearest}
use Rattle.pd_misfits.specs.Lines.{event_spot}
use Rattle.pd_places.specs.Known.{stranger_sentence, stranger_part, attach_part, kind_part, named_part, event_known_part, known_text}
use Rattle.pd_places.proofs.Told.{Told, or_told, if_told, each_told}
use Rattle.pd_places.proofs.TablesTold.{event_told}

-- ---- names

some_letter : (n : ℕ) → not (n == 0) ≡ true → nat_lt 0 n ≡ true
some_letter n h = grind (arith, nat_tests)

pub name_there : (name : List ℕ) → is_name name ≡ true → nat_lt 0 (length name) ≡ true
name_there name h =
    let long = and_parts (not (length name == 0) && nat_le (length name) 16) (list_all is_ascii_alphanumeric name) h in
    some_letter (length name) ((and_parts (not (length name == 0)) (nat_le (length name) 16) long.0).0)

stranger_told : (spot : SpotData) (k : Key) (names : List (List ℕ)) (name : List ℕ) → is_name name ≡ true
    → Told spot (not (list_any (λ other. bytes_eq other name) names)) (stranger_part spot k names name)
stranger_told spot k names name there =
    let strange = not (list_any (λ other. bytes_eq other name) names) in
    subst (λ b. Told spot b (stranger_part spot k names name)) (ap (λ b. b && strange) (name_there name there))
    (if_told spot (nat_lt 0 (length name) && strange) (text_of k) (stranger_sentence k names name) (meant_text (nearest name names)))

cable_there : (ts : List Members) (name : List ℕ) → is_some (cable_named (map cable_of ts) name)
    ≡ list_any (λ other. bytes_eq other name) (names_of ts)
cable_there [] name = refl
cable_there (t ∷ ts) name =
    elim (cases_Bool (bytes_eq (word_at key.Name t) name)) [ inl here ↦ rw here refl | inr other ↦ rw other (cable_there ts name) ]

sink_there : (ts : List Members) (name : List ℕ) → is_some (sink_named (map sink_of ts) name)
    ≡ list_any (λ other. bytes_eq other name) (names_of ts)
sink_there [] name = refl
sink_there (t ∷ ts) name =
    elim (cases_Bool (bytes_eq (word_at key.Name t) name)) [ inl here ↦ rw here refl | inr other ↦ rw other (sink_there ts name) ]

-- ---- one event

one_of : (a b : Bool) → (not a || not b) ≡ not (a && b)
one_of true b = refl
one_of false b = refl

attach_told : (spot : SpotData) (version : Version) (ports : ℕ) (cables sinks : List Members) (t : Members)
    → is_sound version ports (Event (event.OnPort (Attach tt tt))) t ≡ true
    → Told spot
    (not (is_some (cable_named (map cable_of cables) (word_at key.Cable t))
    && is_some (sink_named (map sink_of sinks) (word_at key.Sink t))))
    (attach_part spot (names_of cables) (names_of sinks) t)
unfolding attach_part
attach_told spot version ports cables sinks t sound =
    let named = attach_named version ports t sound in
    let cable = word_at key.Cable t in
    let sink = word_at key.Sink t in
    let a = list_any (λ other. bytes_eq other cable) (names_of cables) in
    let b = list_any (λ other. bytes_eq other sink) (names_of sinks) in
    rw (cable_there cables cable, sink_there sinks sink)
    (subst (λ c. Told spot c (attach_part spot (names_of cables) (names_of sinks) t)) (one_of a b)
    (or_told spot (not a) (not b) _ _ (stranger_told spot key.Cable (names_of cables) cable named.0)
    (stranger_told spot key.Sink (names_of sinks) sink named.1)))

kind_told : (spot : SpotData) (version : Version) (ports : ℕ) (cables sinks : List Members) (kind : KindWord) (t : Members)
    → is_sound version ports (Event (event.OnPort kind)) t ≡ true
    → Told spot (not (kind_is_known (map cable_of cables) (map sink_of sinks) (kind_in kind t)))
    (kind_part spot (names_of cables) (names_of sinks) kind t)
kind_told spot version ports cables sinks (Attach cable sink) t sound = attach_told spot version ports cables sinks t sound
kind_told spot version ports cables sinks _ t sound = refl

named_told : (spot : SpotData) (version : Version) (ports : ℕ) (cables sinks : List Members) (name : EventName) (t : Members)
    → is_sound version ports (Event name) t ≡ true
    → Told spot (not (names_are_known (map cable_of cables) (map sink_of sinks) (happening_of name t)))
    (named_part spot (names_of cables) (names_of sinks) name t)
named_told spot version ports cables sinks (event.OnPort kind) t sound = kind_told spot version ports cables sinks kind t sound
named_told spot version ports cables sinks event.Budget t sound = refl
named_told spot version ports cables sinks event.Unknown t sound = refl

-- ---- a file

pub not_all : {A B : Type 0} (q : B → Bool) (f : A → B) (xs : List A)
    → list_any (λ x. not (q (f x))) xs ≡ not (list_all q (map f xs))
not_all q f [] = refl
not_all q f (x ∷ xs) = rw (not_all q f xs) (one_of (q (f x)) (list_all q (map f xs)))

pub known_told : (spot : SpotData) (ports : ℕ) (d : Tables) → Clean ports d
    → Told spot (has_unknown_name (scenario_of d)) (known_text spot d)
unfolding has_unknown_name
known_told spot ports d clean =
    let c = scenario_of d in
    let known = λ (e : ScenarioEvent). names_are_known c.cables c.sinks e.happening in
    subst (λ b. Told spot b (known_text spot d)) (not_all known (event_of d.version) d.events)
    (each_told spot (is_sound_event d.version ports) (λ t. not (known (event_of d.version t)))
    (event_known_part spot d.version (names_of d.cables) (names_of d.sinks))
    (λ number t sound. event_told spot d.version number t _ _
    (named_told (event_spot spot d.version number t) d.version ports d.cables d.sinks (event_at d.version t) t sound))
    1 d.events (sound_events ports d clean))
