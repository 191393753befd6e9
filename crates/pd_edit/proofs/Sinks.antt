-- An edit of the sinks that isn't refused leaves a valid scenario.
use Rattle.std.proofs.Common.{◌≡◌, ℕ, ◌<◌, Bool, true, false, not, ◌||◌, cond, List, [], ◌∷◌, ◌++◌, length, filter, map, refl, sym, ap, ◌∙◌}
use Rattle.std.proofs.Common.{inl, inr, arith}
use Rattle.std.specs.Prelude.{All, nat_lt, bytes_eq}
use Rattle.std.specs.List.{list_any, list_all}
use Rattle.std.proofs.lemmas.Bool.{cases_Bool, false≢true, and_parts}
use Rattle.std.proofs.lemmas.Bool.Decides.{nat_tests}
use Rattle.std.proofs.lemmas.List.{length-map, length-append}
use Rattle.std.proofs.lemmas.List.Folds.{list_all-map}
use Rattle.std.proofs.lemmas.List.Elements.{All-nil, All-cons, All-head, All-tail, All-append, All-filter}
use Rattle.pd_setup.specs.Sinks.{IsSink}
use Rattle.pd_setup.specs.declared.sink.SinkMode.{SinkMode}
use Rattle.pd_setup.specs.declared.sink.SinkRevision.{SinkRevision}
use Rattle.pd_scenario.specs.declared.named.NamedCable.{NamedCable}
use Rattle.pd_scenario.specs.declared.named.NamedSink.{NamedSink}
use Rattle.pd_scenario.specs.declared.event.ScenarioEvent.{ScenarioEvent}
use Rattle.pd_scenario.specs.Events.{ScenarioEventKind}
use Rattle.pd_setup.specs.declared.event.EventKind.TheVariants.{Attach}
use Rattle.pd_scenario.specs.declared.event.ScenarioHappening.{ScenarioHappening}
use Rattle.pd_scenario.specs.declared.event.ScenarioHappening.TheVariants.{OnPort, Budget}
use Rattle.pd_scenario.specs.Names.{is_name}
use Rattle.pd_scenario.specs.Scenarios.{ScenarioData, IsValid, names_differ, kind_is_known, names_are_known}
use Rattle.pd_edit_lines.specs.declared.edit.Edit.TheVariants.{Sink, DropSink}
use Rattle.pd_edit.specs.Edits.{has_cable, has_sink, written_sink, without_sink, outcome}
use Rattle.pd_edit.specs.Refusals.{IsAccepted, kind_names_sink, names_sink}
use Rattle.pd_edit.proofs.Listed.{list_all-filter, length-filter-le, list_all-last, list_all-implies, list_all-without}
use Rattle.pd_edit.proofs.Named.{not_true, is_among, some_of, among, among-last, differ-last, names-replaced, differ-filter, among-dropped}
use Rattle.pd_edit.proofs.Parts.{valid_sinks}

abbrev name_of : NamedSink → List ℕ
name_of sink = sink.name

abbrev Fits : NamedSink → Type 0
Fits sink = IsSink sink.sink

has_is_among : (k : List ℕ) (sinks : List NamedSink) → has_sink sinks k ≡ is_among k (map name_of sinks)
has_is_among k sinks = some_of (λ sink. sink.sink) _ ∙ among name_of k sinks

-- ---- what events name stays known

kind_known : (cables : List NamedCable) (old new : List NamedSink) → ((k : List ℕ) → has_sink old k ≡ true → has_sink new k ≡ true)
    → (kind : ScenarioEventKind)
    → kind_is_known cables old kind ≡ true → kind_is_known cables new kind ≡ true
kind_known cables old new kept (Attach cable sink) h =
    let (before, here) = and_parts (has_cable cables cable) (has_sink old sink) h in
    rw (before, kept sink here)
kind_known cables old new kept _ h = refl

known : (cables : List NamedCable) (old new : List NamedSink) → ((k : List ℕ) → has_sink old k ≡ true → has_sink new k ≡ true)
    → (h : ScenarioHappening)
    → names_are_known cables old h ≡ true → names_are_known cables new h ≡ true
known cables old new kept (OnPort port kind) h = kind_known cables old new kept kind h
known cables old new kept (Budget mw) h = refl

kind_known_dropped : (cables : List NamedCable) (sinks : List NamedSink) (gone : List ℕ) (kind : ScenarioEventKind)
    → kind_names_sink gone kind ≡ false → kind_is_known cables sinks kind ≡ true
    → kind_is_known cables (without_sink gone sinks) kind ≡ true
kind_known_dropped cables sinks gone (Attach cable sink) other h =
    let (before, here) = and_parts (has_cable cables cable) (has_sink sinks sink) h in
    let left = among-dropped name_of sink gone sinks other (sym (has_is_among sink sinks) ∙ here) in
    rw (before, has_is_among sink (without_sink gone sinks), left)
kind_known_dropped cables sinks gone _ other h = refl

known_dropped : (cables : List NamedCable) (sinks : List NamedSink) (gone : List ℕ) (h : ScenarioHappening) → names_sink gone h ≡ false
    → names_are_known cables sinks h ≡ true
    → names_are_known cables (without_sink gone sinks) h ≡ true
known_dropped cables sinks gone (OnPort port kind) other h = kind_known_dropped cables sinks gone kind other h
known_dropped cables sinks gone (Budget mw) other h = refl

-- ---- a new or another sink

one_fits : (b : Bool) (new old : NamedSink) → Fits new → Fits old → Fits (cond b new old)
one_fits true new old h k = h
one_fits false new old h k = k

fit-replaced : (new : NamedSink) (sinks : List NamedSink) → Fits new → All Fits sinks
    → All Fits (map (λ (old : NamedSink). cond (bytes_eq old.name new.name) new old) sinks)
fit-replaced new [] h all = All-nil Fits
fit-replaced new (sink ∷ sinks) h all =
    All-cons Fits (cond (bytes_eq sink.name new.name) new sink) (map (λ (old : NamedSink). cond (bytes_eq old.name new.name) new old) sinks)
    (one_fits (bytes_eq sink.name new.name) new sink h (All-head Fits sink sinks all))
    (fit-replaced new sinks h (All-tail Fits sink sinks all))

valid_replaced : (n : ℕ) (c : ScenarioData) (new : NamedSink) → Fits new → IsValid n c
    → IsValid n (record c { sinks = map (λ (old : NamedSink). cond (bytes_eq old.name new.name) new old) c.sinks })
valid_replaced n c new fits v =
    let replaced : List NamedSink = map (λ (old : NamedSink). cond (bytes_eq old.name new.name) new old) c.sinks in
    let names : map name_of replaced ≡ map name_of c.sinks = names-replaced name_of new c.sinks in
    let kept : (k : List ℕ) → has_sink c.sinks k ≡ true → has_sink replaced k ≡ true =
    λ k h. has_is_among k replaced ∙ ap (is_among k) names ∙ sym (has_is_among k c.sinks) ∙ h in
    valid_sinks n c replaced
    (omega (arith, length-map c.sinks (λ (old : NamedSink). cond (bytes_eq old.name new.name) new old), v.few_sinks))
    (sym (list_all-map is_name name_of replaced) ∙ ap (list_all is_name) names ∙ list_all-map is_name name_of c.sinks ∙ v.sinks_named)
    (fit-replaced new c.sinks fits v.sinks_fit)
    (ap names_differ names ∙ v.sinks_differ)
    (list_all-implies (λ (e : ScenarioEvent). names_are_known c.cables c.sinks e.happening)
    (λ (e : ScenarioEvent). names_are_known c.cables replaced e.happening)
    (λ e h. known c.cables c.sinks replaced kept e.happening h) c.events v.names_known) v

names_last : (new : NamedSink) (sinks : List NamedSink) → map name_of (sinks ++ new ∷ []) ≡ map name_of sinks ++ new.name ∷ []
names_last new [] = refl
names_last new (sink ∷ sinks) = ap (λ rest. sink.name ∷ rest) (names_last new sinks)

valid_appended : (n : ℕ) (c : ScenarioData) (new : NamedSink) → Fits new → is_name new.name ≡ true → has_sink c.sinks new.name ≡ false
    → length c.sinks < 64 → IsValid n c
    → IsValid n (record c { sinks = c.sinks ++ new ∷ [] })
valid_appended n c new fits named other room v =
    let more : List NamedSink = c.sinks ++ new ∷ [] in
    let names = names_last new c.sinks in
    let kept : (k : List ℕ) → has_sink c.sinks k ≡ true → has_sink more k ≡ true =
    λ k h. has_is_among k more ∙ ap (is_among k) names ∙ among-last k new.name (map name_of c.sinks) (sym (has_is_among k c.sinks) ∙ h) in
    valid_sinks n c more
    (omega (arith, length-append c.sinks (new ∷ [])))
    (list_all-last (λ (sink : NamedSink). is_name sink.name) c.sinks new v.sinks_named named)
    (All-append Fits c.sinks (new ∷ []) v.sinks_fit (All-cons Fits new [] fits (All-nil Fits)))
    (ap names_differ names ∙ differ-last new.name (map name_of c.sinks) v.sinks_differ (sym (has_is_among new.name c.sinks) ∙ other))
    (list_all-implies (λ (e : ScenarioEvent). names_are_known c.cables c.sinks e.happening)
    (λ (e : ScenarioEvent). names_are_known c.cables more e.happening)
    (λ e h. known c.cables c.sinks more kept e.happening h) c.events v.names_known) v

room_for : (has : Bool) (n : ℕ) → has ≡ false → (has || nat_lt n 64) ≡ true → n < 64
room_for true n is h = absurd (false≢true (sym is))
room_for false n is h = grind (arith, nat_tests)

pub valid_sink : (n : ℕ) (c : ScenarioData) (name : List ℕ) (max_mv demand_mw : ℕ) (mode : SinkMode) (revision : SinkRevision)
    → is_name name ≡ true
    → IsSink (record { max_mv = max_mv; demand_mw = demand_mw; mode = mode; revision = revision }) → IsValid n c
    → IsAccepted n c (Sink name max_mv demand_mw mode revision)
    → IsValid n (outcome c (Sink name max_mv demand_mw mode revision))
valid_sink n c name max_mv demand_mw mode revision named fits v a =
    let new : NamedSink = written_sink name max_mv demand_mw mode revision in
    elim (cases_Bool (has_sink c.sinks name)) [
      | inl there ↦ rw there (valid_replaced n c new fits v)
      | inr other ↦ rw other (valid_appended n c new fits named other (room_for (has_sink c.sinks name) (length c.sinks) other a.room) v)
    ]

-- ---- a dropped sink

pub valid_drop_sink : (n : ℕ) (c : ScenarioData) (name : List ℕ) → IsValid n c → IsAccepted n c (DropSink name)
    → IsValid n (outcome c (DropSink name))
valid_drop_sink n c name v a =
    let others : NamedSink → Bool = λ (sink : NamedSink). not (bytes_eq sink.name name) in
    let unused : list_any (λ (e : ScenarioEvent). names_sink name e.happening) c.events ≡ false = not_true _ a.unused in
    valid_sinks n c (filter others c.sinks)
    (omega (arith, length-filter-le others c.sinks, v.few_sinks))
    (list_all-filter (λ (sink : NamedSink). is_name sink.name) others c.sinks v.sinks_named)
    (All-filter others Fits c.sinks v.sinks_fit)
    (differ-filter name_of others c.sinks v.sinks_differ)
    (list_all-without (λ (e : ScenarioEvent). names_are_known c.cables c.sinks e.happening)
    (λ (e : ScenarioEvent). names_are_known c.cables (filter others c.sinks) e.happening)
    (λ (e : ScenarioEvent). names_sink name e.happening) (λ e other h. known_dropped c.cables c.sinks name e.happening other h) c.events
    unused v.names_known) v
