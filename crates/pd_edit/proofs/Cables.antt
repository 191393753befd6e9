-- An edit of the cables that isn't refused leaves a valid scenario.
use Rattle.std.proofs.Common.{◌≡◌, ℕ, ◌<◌, Bool, true, false, not, ◌||◌, cond, List, [], ◌∷◌, ◌++◌, length, filter, map, refl, sym, ap, ◌∙◌}
use Rattle.std.proofs.Common.{inl, inr, arith}
use Rattle.std.specs.Prelude.{nat_lt, bytes_eq}
use Rattle.std.specs.List.{list_any, list_all}
use Rattle.std.proofs.lemmas.Bool.{cases_Bool, false≢true, and_parts}
use Rattle.std.proofs.lemmas.Bool.Decides.{nat_tests}
use Rattle.std.proofs.lemmas.List.{length-map, length-append}
use Rattle.std.proofs.lemmas.List.Folds.{list_all-map}
use Rattle.pd_identity.specs.declared.CablePlug.{CablePlug}
use Rattle.pd_scenario.specs.declared.named.NamedCable.{NamedCable}
use Rattle.pd_scenario.specs.declared.named.NamedSink.{NamedSink}
use Rattle.pd_scenario.specs.declared.event.ScenarioEvent.{ScenarioEvent}
use Rattle.pd_scenario.specs.Events.{ScenarioEventKind}
use Rattle.pd_setup.specs.declared.event.EventKind.TheVariants.{Attach}
use Rattle.pd_scenario.specs.declared.event.ScenarioHappening.{ScenarioHappening}
use Rattle.pd_scenario.specs.declared.event.ScenarioHappening.TheVariants.{OnPort, Budget}
use Rattle.pd_scenario.specs.Names.{is_name}
use Rattle.pd_scenario.specs.Scenarios.{ScenarioData, IsValid, names_differ, kind_is_known, names_are_known}
use Rattle.pd_edit_lines.specs.declared.edit.Edit.TheVariants.{Cable, DropCable}
use Rattle.pd_edit.specs.Edits.{has_cable, has_sink, written_cable, without_cable, outcome}
use Rattle.pd_edit.specs.Refusals.{IsAccepted, kind_names_cable, names_cable}
use Rattle.pd_edit.proofs.Listed.{list_all-filter, length-filter-le, list_all-last, list_all-implies, list_all-without}
use Rattle.pd_edit.proofs.Named.{not_true, is_among, some_of, among, among-last, differ-last, names-replaced, differ-filter, among-dropped}
use Rattle.pd_edit.proofs.Parts.{valid_cables}

abbrev name_of : NamedCable → List ℕ
name_of cable = cable.name

has_is_among : (k : List ℕ) (cables : List NamedCable) → has_cable cables k ≡ is_among k (map name_of cables)
has_is_among k cables = some_of (λ cable. cable.cable) _ ∙ among name_of k cables

-- ---- what events name stays known

kind_known : (old new : List NamedCable) (sinks : List NamedSink) → ((k : List ℕ) → has_cable old k ≡ true → has_cable new k ≡ true)
    → (kind : ScenarioEventKind)
    → kind_is_known old sinks kind ≡ true → kind_is_known new sinks kind ≡ true
kind_known old new sinks kept (Attach cable sink) h =
    let (here, more) = and_parts (has_cable old cable) (has_sink sinks sink) h in
    rw (kept cable here, more)
kind_known old new sinks kept _ h = refl

known : (old new : List NamedCable) (sinks : List NamedSink) → ((k : List ℕ) → has_cable old k ≡ true → has_cable new k ≡ true)
    → (h : ScenarioHappening)
    → names_are_known old sinks h ≡ true → names_are_known new sinks h ≡ true
known old new sinks kept (OnPort port kind) h = kind_known old new sinks kept kind h
known old new sinks kept (Budget mw) h = refl

kind_known_dropped : (cables : List NamedCable) (sinks : List NamedSink) (gone : List ℕ) (kind : ScenarioEventKind)
    → kind_names_cable gone kind ≡ false → kind_is_known cables sinks kind ≡ true
    → kind_is_known (without_cable gone cables) sinks kind ≡ true
kind_known_dropped cables sinks gone (Attach cable sink) other h =
    let (here, more) = and_parts (has_cable cables cable) (has_sink sinks sink) h in
    let left = among-dropped name_of cable gone cables other (sym (has_is_among cable cables) ∙ here) in
    rw (has_is_among cable (without_cable gone cables), left, more)
kind_known_dropped cables sinks gone _ other h = refl

known_dropped : (cables : List NamedCable) (sinks : List NamedSink) (gone : List ℕ) (h : ScenarioHappening) → names_cable gone h ≡ false
    → names_are_known cables sinks h ≡ true
    → names_are_known (without_cable gone cables) sinks h ≡ true
known_dropped cables sinks gone (OnPort port kind) other h = kind_known_dropped cables sinks gone kind other h
known_dropped cables sinks gone (Budget mw) other h = refl

-- ---- a new or another cable

valid_replaced : (n : ℕ) (c : ScenarioData) (new : NamedCable) → IsValid n c
    → IsValid n (record c { cables = map (λ (old : NamedCable). cond (bytes_eq old.name new.name) new old) c.cables })
valid_replaced n c new v =
    let replaced : List NamedCable = map (λ (old : NamedCable). cond (bytes_eq old.name new.name) new old) c.cables in
    let names : map name_of replaced ≡ map name_of c.cables = names-replaced name_of new c.cables in
    let kept : (k : List ℕ) → has_cable c.cables k ≡ true → has_cable replaced k ≡ true =
    λ k h. has_is_among k replaced ∙ ap (is_among k) names ∙ sym (has_is_among k c.cables) ∙ h in
    valid_cables n c replaced
    (omega (arith, length-map c.cables (λ (old : NamedCable). cond (bytes_eq old.name new.name) new old), v.few_cables))
    (sym (list_all-map is_name name_of replaced) ∙ ap (list_all is_name) names ∙ list_all-map is_name name_of c.cables ∙ v.cables_named)
    (ap names_differ names ∙ v.cables_differ)
    (list_all-implies (λ (e : ScenarioEvent). names_are_known c.cables c.sinks e.happening)
    (λ (e : ScenarioEvent). names_are_known replaced c.sinks e.happening)
    (λ e h. known c.cables replaced c.sinks kept e.happening h) c.events v.names_known) v

names_last : (new : NamedCable) (cables : List NamedCable) → map name_of (cables ++ new ∷ []) ≡ map name_of cables ++ new.name ∷ []
names_last new [] = refl
names_last new (cable ∷ cables) = ap (λ rest. cable.name ∷ rest) (names_last new cables)

valid_appended : (n : ℕ) (c : ScenarioData) (new : NamedCable) → is_name new.name ≡ true → has_cable c.cables new.name ≡ false
    → length c.cables < 64 → IsValid n c
    → IsValid n (record c { cables = c.cables ++ new ∷ [] })
valid_appended n c new named other room v =
    let more : List NamedCable = c.cables ++ new ∷ [] in
    let names = names_last new c.cables in
    let kept : (k : List ℕ) → has_cable c.cables k ≡ true → has_cable more k ≡ true =
    λ k h. has_is_among k more ∙ ap (is_among k) names ∙ among-last k new.name (map name_of c.cables) (sym (has_is_among k c.cables) ∙ h) in
    valid_cables n c more
    (omega (arith, length-append c.cables (new ∷ [])))
    (list_all-last (λ (cable : NamedCable). is_name cable.name) c.cables new v.cables_named named)
    (ap names_differ names ∙ differ-last new.name (map name_of c.cables) v.cables_differ (sym (has_is_among new.name c.cables) ∙ other))
    (list_all-implies (λ (e : ScenarioEvent). names_are_known c.cables c.sinks e.happening)
    (λ (e : ScenarioEvent). names_are_known more c.sinks e.happening)
    (λ e h. known c.cables more c.sinks kept e.happening h) c.events v.names_known) v

room_for : (has : Bool) (n : ℕ) → has ≡ false → (has || nat_lt n 64) ≡ true → n < 64
room_for true n is h = absurd (false≢true (sym is))
room_for false n is h = grind (arith, nat_tests)

pub valid_cable : (n : ℕ) (c : ScenarioData) (name : List ℕ) (plug : CablePlug) (rating : ℕ) → is_name name ≡ true → IsValid n c
    → IsAccepted n c (Cable name plug rating)
    → IsValid n (outcome c (Cable name plug rating))
valid_cable n c name plug rating named v a =
    let new : NamedCable = written_cable name plug rating in
    elim (cases_Bool (has_cable c.cables name)) [
      | inl there ↦ rw there (valid_replaced n c new v)
      | inr other ↦ rw other (valid_appended n c new named other (room_for (has_cable c.cables name) (length c.cables) other a.room) v)
    ]

-- ---- a dropped cable

pub valid_drop_cable : (n : ℕ) (c : ScenarioData) (name : List ℕ) → IsValid n c → IsAccepted n c (DropCable name)
    → IsValid n (outcome c (DropCable name))
valid_drop_cable n c name v a =
    let others : NamedCable → Bool = λ (cable : NamedCable). not (bytes_eq cable.name name) in
    let unused : list_any (λ (e : ScenarioEvent). names_cable name e.happening) c.events ≡ false = not_true _ a.unused in
    valid_cables n c (filter others c.cables)
    (omega (arith, length-filter-le others c.cables, v.few_cables))
    (list_all-filter (λ (cable : NamedCable). is_name cable.name) others c.cables v.cables_named)
    (differ-filter name_of others c.cables v.cables_differ)
    (list_all-without (λ (e : ScenarioEvent). names_are_known c.cables c.sinks e.happening)
    (λ (e : ScenarioEvent). names_are_known (filter others c.cables) c.sinks e.happening)
    (λ (e : ScenarioEvent). names_cable name e.happening) (λ e other h. known_dropped c.cables c.sinks name e.happening other h) c.events
    unused v.names_known) v
