-- An edit of the events that isn't refused leaves a valid scenario.
use Rattle.std.proofs.Common.{◌≡◌, ℕ, ◌<◌, ◌≤◌, Bool, true, false, not, ◌&&◌, cond, List, [], ◌∷◌, ◌++◌, length, filter, map, refl, sym, ap}
use Rattle.std.proofs.Common.{◌∙◌, inl, inr, arith}
use Rattle.std.specs.Prelude.{◌==◌, nat_le, nat_lt}
use Rattle.std.specs.List.{list_all}
use Rattle.std.proofs.lemmas.Bool.{cases_Bool, false≢true, and_parts, or_parts}
use Rattle.std.proofs.lemmas.Bool.Decides.{nat_tests}
use Rattle.std.proofs.lemmas.List.{length-map, length-append}
use Rattle.pd_scenario.specs.declared.limits.Quantity.TheVariants as quantity
use Rattle.pd_scenario.specs.declared.event.ScenarioEvent.{ScenarioEvent}
use Rattle.pd_scenario.specs.Events.{ScenarioEventKind}
use Rattle.pd_scenario.specs.declared.event.ScenarioHappening.{ScenarioHappening}
use Rattle.pd_scenario.specs.declared.event.ScenarioHappening.TheVariants as scenario_happening
use Rattle.pd_scenario.specs.Names.{is_name}
use Rattle.pd_scenario.specs.Limits.{allows, is_port}
use Rattle.pd_scenario.specs.Scenarios.{ScenarioData, IsValid, floors_mw, has_id, ids_differ, kind_fits, happening_fits, event_fits}
use Rattle.pd_scenario.specs.Scenarios.{names_are_known, kind_is_known as kind_names_are_known, budget_in, budget_of, least_budget}
use Rattle.pd_setup.specs.declared.event.EventKind.TheVariants.{Attach, Demand, Damage}
use Rattle.pd_edit_lines.specs.Kinds.{EditKind}
use Rattle.pd_edit_lines.specs.declared.edit.EditHappening.{EditHappening}
use Rattle.pd_edit_lines.specs.declared.edit.EditHappening.TheVariants as happens
use Rattle.pd_edit_lines.specs.declared.edit.Edit.TheVariants.{Insert, Remove, Move, Change}
use Rattle.pd_edit.specs.Edits.{event_kind_of, event_happening_of, inserted_event, moved_event, with_kind, changed_event, has_cable}
use Rattle.pd_edit.specs.Edits.{has_sink, outcome}
use Rattle.pd_edit.specs.Refusals.{IsAccepted, kind_is_known, happening_is_known, kind_in_range, happening_in_range, happens_on_port}
use Rattle.pd_edit.proofs.Floors.{least_append, least_filter, least_map}
use Rattle.pd_edit.proofs.Listed.{list_all-filter, list_any-filter, length-filter-le, list_all-last}
use Rattle.pd_edit.proofs.Named.{not_true, some_of, among, name_of}
use Rattle.pd_edit.proofs.Parts.{valid_events}

-- ---- ids

ids_differ-filter : (q : ScenarioEvent → Bool) (es : List ScenarioEvent) → ids_differ es ≡ true → ids_differ (filter q es) ≡ true
ids_differ-filter q [] h = refl
ids_differ-filter q (e ∷ es) h =
    let (here, more) = and_parts (not (has_id es e.id)) (ids_differ es) h in
    let new = list_any-filter (λ (f : ScenarioEvent). f.id == e.id) q es (not_true _ here) in
    elim (cases_Bool (q e)) [
      | inl kept ↦ rw (kept, new, ids_differ-filter q es more)
      | inr gone ↦ rw gone (ids_differ-filter q es more)
    ]

has_id-map : (f : ScenarioEvent → ScenarioEvent) → ((e : ScenarioEvent) → (f e).id ≡ e.id) → (k : ℕ) (es : List ScenarioEvent)
    → has_id (map f es) k ≡ has_id es k
has_id-map f same k [] = refl
has_id-map f same k (e ∷ es) = rw (same e, has_id-map f same k es)

ids_differ-map : (f : ScenarioEvent → ScenarioEvent) → ((e : ScenarioEvent) → (f e).id ≡ e.id) → (es : List ScenarioEvent)
    → ids_differ (map f es) ≡ ids_differ es
ids_differ-map f same [] = refl
ids_differ-map f same (e ∷ es) = rw (same e, has_id-map f same e.id es, ids_differ-map f same es)

has_id-last : (es : List ScenarioEvent) (e : ScenarioEvent) (k : ℕ) → has_id es k ≡ false → (e.id == k) ≡ false
    → has_id (es ++ e ∷ []) k ≡ false
has_id-last [] e k h other = rw other
has_id-last (f ∷ es) e k h other =
    let (first, more) = or_parts (f.id == k) (has_id es k) h in
    rw (first, has_id-last es e k more other)

turned : (a b : ℕ) → (a == b) ≡ false → (b == a) ≡ false
turned a b h = grind (arith, nat_tests)

ids_differ-last : (es : List ScenarioEvent) (e : ScenarioEvent) → ids_differ es ≡ true → has_id es e.id ≡ false
    → ids_differ (es ++ e ∷ []) ≡ true
ids_differ-last [] e h new = refl
ids_differ-last (f ∷ es) e h new =
    let (here, more) = and_parts (not (has_id es f.id)) (ids_differ es) h in
    let (first, others) = or_parts (f.id == e.id) (has_id es e.id) new in
    rw (has_id-last es e f.id (not_true _ here) (turned f.id e.id first), ids_differ-last es e more others)

-- ---- kinds of events

cable_is_name : (c : ScenarioData) (name : List ℕ) → list_all (λ cable. is_name cable.name) c.cables ≡ true
    → has_cable c.cables name ≡ true → is_name name ≡ true
cable_is_name c name named known =
    name_of (λ cable. cable.name) name is_name c.cables named
    (sym (some_of (λ cable. cable.cable) _ ∙ among (λ cable. cable.name) name c.cables) ∙ known)

sink_is_name : (c : ScenarioData) (name : List ℕ) → list_all (λ sink. is_name sink.name) c.sinks ≡ true → has_sink c.sinks name ≡ true
    → is_name name ≡ true
sink_is_name c name named known =
    name_of (λ sink. sink.name) name is_name c.sinks named (sym (some_of (λ sink. sink.sink) _ ∙ among (λ sink. sink.name) name c.sinks)
    ∙ known)

kind_fits-known : (n : ℕ) (c : ScenarioData) (kind : EditKind) → IsValid n c → kind_is_known c kind ≡ true → kind_in_range kind ≡ true
    → kind_fits (event_kind_of kind) ≡ true
kind_fits-known n c (Attach cable sink) v known range =
    let (has_cable, has_sink) = and_parts (has_cable c.cables cable) (has_sink c.sinks sink) known in
    rw (cable_is_name c cable v.cables_named has_cable, sink_is_name c sink v.sinks_named has_sink)
kind_fits-known n c (Demand mw) v known range = range
kind_fits-known n c (Damage harm) v known range = range
kind_fits-known n c _ v known range = refl

kind_names-known : (c : ScenarioData) (kind : EditKind) → kind_is_known c kind ≡ true
    → kind_names_are_known c.cables c.sinks (event_kind_of kind) ≡ true
kind_names-known c (Attach cable sink) known = known
kind_names-known c _ known = refl

happening_fits-known : (n : ℕ) (c : ScenarioData) (h : EditHappening) → IsValid n c → happening_is_known c h ≡ true
    → happens_on_port n h ≡ true → happening_in_range h ≡ true
    → happening_fits n (event_happening_of h) ≡ true
happening_fits-known n c (happens.OnPort port kind) v known on range = rw (on, kind_fits-known n c kind v known range)
happening_fits-known n c (happens.Budget mw) v known on range = range

happening_names-known : (c : ScenarioData) (h : EditHappening) → happening_is_known c h ≡ true
    → names_are_known c.cables c.sinks (event_happening_of h) ≡ true
happening_names-known c (happens.OnPort port kind) known = kind_names-known c kind known
happening_names-known c (happens.Budget mw) known = refl

-- ---- insert

at_most : (a b : ℕ) → nat_le a b ≡ true → a ≤ b
at_most a b h = grind (arith, nat_tests)

below : (a b : ℕ) → nat_lt a b ≡ true → a < b
below a b h = grind (arith, nat_tests)

funded-insert : (n : ℕ) (c : ScenarioData) (id at : ℕ) (h : EditHappening) → IsValid n c → IsAccepted n c (Insert id at h)
    → floors_mw c.settings ≤ least_budget c.budget_mw (c.events ++ inserted_event id at h ∷ [])
funded-insert n c id at (happens.OnPort port kind) v a =
    rw (least_append c.budget_mw c.events (inserted_event id at (happens.OnPort port kind))) v.funded
funded-insert n c id at (happens.Budget mw) v a = at_most _ _ a.funded

pub valid_insert : (n : ℕ) (c : ScenarioData) (id at : ℕ) (h : EditHappening) → IsValid n c → IsAccepted n c (Insert id at h)
    → IsValid n (outcome c (Insert id at h))
valid_insert n c id at h v a =
    let event : ScenarioEvent = inserted_event id at h in
    let (numbers, range) = and_parts (allows quantity.EventId id && allows quantity.Time at) (happening_in_range h) a.in_range in
    let fits : event_fits n event ≡ true = rw (numbers, happening_fits-known n c h v a.name_known a.port_known range) in
    let room = below (length c.events) 4096 a.room in
    valid_events n c (c.events ++ event ∷ [])
    (omega (arith, length-append c.events (event ∷ [])))
    (ids_differ-last c.events event v.events_differ (not_true _ a.id_free))
    (list_all-last (event_fits n) c.events event v.events_fit fits)
    (list_all-last (λ (e : ScenarioEvent). names_are_known c.cables c.sinks e.happening) c.events event v.names_known
    (happening_names-known c h a.name_known))
    (funded-insert n c id at h v a) v

-- ---- remove

pub valid_remove : (n : ℕ) (c : ScenarioData) (id : ℕ) → IsValid n c → IsValid n (outcome c (Remove id))
valid_remove n c id v =
    let others : ScenarioEvent → Bool = λ (e : ScenarioEvent). not (e.id == id) in
    let funded : floors_mw c.settings ≤ least_budget c.budget_mw (filter others c.events) =
    omega (arith, v.funded, least_filter c.budget_mw others c.events) in
    valid_events n c (filter others c.events)
    (omega (arith, length-filter-le others c.events, v.few_events))
    (ids_differ-filter others c.events v.events_differ)
    (list_all-filter (event_fits n) others c.events v.events_fit)
    (list_all-filter (λ (e : ScenarioEvent). names_are_known c.cables c.sinks e.happening) others c.events v.names_known)
    funded v

-- ---- move

id_of_moved : (id at : ℕ) (e : ScenarioEvent) → (moved_event id at e).id ≡ e.id
id_of_moved id at e = elim (e.id == id) as (λ b. (cond b (record e { at = at }) e).id ≡ e.id) [ true ↦ refl | false ↦ refl ]

happening_of_moved : (id at : ℕ) (e : ScenarioEvent) → (moved_event id at e).happening ≡ e.happening
happening_of_moved id at e =
    elim (e.id == id) as (λ b. (cond b (record e { at = at }) e).happening ≡ e.happening) [ true ↦ refl | false ↦ refl ]

with_second : (a b b' c : Bool) → b' ≡ true → ((a && b) && c) ≡ true → ((a && b') && c) ≡ true
with_second true true b' c is h = rw is h
with_second true false b' c is h = absurd (false≢true h)
with_second false b b' c is h = absurd (false≢true h)

fits_moved : (n id at : ℕ) (e : ScenarioEvent) → allows quantity.Time at ≡ true → event_fits n e ≡ true
    → event_fits n (moved_event id at e) ≡ true
fits_moved n id at e within h =
    elim (cases_Bool (e.id == id)) [
      | inl same ↦
          rw same (with_second (allows quantity.EventId e.id) (allows quantity.Time e.at) (allows quantity.Time at)
          (happening_fits n e.happening) within h)
      | inr other ↦ rw other h
    ]

list_all-to_map : (p : ScenarioEvent → Bool) (f : ScenarioEvent → ScenarioEvent) → ((e : ScenarioEvent) → p e ≡ true → p (f e) ≡ true)
    → (es : List ScenarioEvent) → list_all p es ≡ true
    → list_all p (map f es) ≡ true
list_all-to_map p f kept [] h = refl
list_all-to_map p f kept (e ∷ es) h =
    let (here, more) = and_parts (p e) (list_all p es) h in
    rw (kept e here, list_all-to_map p f kept es more)

pub valid_move : (n : ℕ) (c : ScenarioData) (id at : ℕ) → IsValid n c → IsAccepted n c (Move id at) → IsValid n (outcome c (Move id at))
valid_move n c id at v a =
    let f : ScenarioEvent → ScenarioEvent = moved_event id at in
    valid_events n c (map f c.events)
    (omega (arith, length-map c.events f, v.few_events))
    (ids_differ-map f (id_of_moved id at) c.events ∙ v.events_differ)
    (list_all-to_map (event_fits n) f (λ e h. fits_moved n id at e a.in_range h) c.events v.events_fit)
    (list_all-to_map (λ (e : ScenarioEvent). names_are_known c.cables c.sinks e.happening) f
    (λ e h. ap (names_are_known c.cables c.sinks) (happening_of_moved id at e) ∙ h) c.events v.names_known)
    (rw (least_map c.budget_mw f (λ e. ap budget_in (happening_of_moved id at e)) c.events) v.funded) v

-- ---- change

id_of_changed : (id : ℕ) (kind : ScenarioEventKind) (e : ScenarioEvent) → (changed_event id kind e).id ≡ e.id
id_of_changed id kind e =
    elim (e.id == id) as (λ b. (cond b (record e { happening = with_kind kind e.happening }) e).id ≡ e.id) [ true ↦ refl | false ↦ refl ]

budget_kept : (kind : ScenarioEventKind) (h : ScenarioHappening) → budget_in (with_kind kind h) ≡ budget_in h
budget_kept kind (scenario_happening.OnPort port old) = refl
budget_kept kind (scenario_happening.Budget mw) = refl

budget_of_changed : (id : ℕ) (kind : ScenarioEventKind) (e : ScenarioEvent) → budget_of (changed_event id kind e) ≡ budget_of e
budget_of_changed id kind e =
    elim (cases_Bool (e.id == id)) [
      | inl same ↦ rw same (budget_kept kind e.happening)
      | inr other ↦ rw other
    ]

fits_with : (n : ℕ) (kind : ScenarioEventKind) (h : ScenarioHappening) → kind_fits kind ≡ true → happening_fits n h ≡ true
    → happening_fits n (with_kind kind h) ≡ true
fits_with n kind (scenario_happening.OnPort port old) fits h =
    let (on, before) = and_parts (is_port n port) (kind_fits old) h in rw (on, fits)
fits_with n kind (scenario_happening.Budget mw) fits h = h

with_third : (a b b' : Bool) → (b ≡ true → b' ≡ true) → (a && b) ≡ true → (a && b') ≡ true
with_third true b b' to h = to h
with_third false b b' to h = absurd (false≢true h)

fits_changed : (n id : ℕ) (kind : ScenarioEventKind) (e : ScenarioEvent) → kind_fits kind ≡ true → event_fits n e ≡ true
    → event_fits n (changed_event id kind e) ≡ true
fits_changed n id kind e fits h =
    elim (cases_Bool (e.id == id)) [
      | inl same ↦
          rw same (with_third (allows quantity.EventId e.id && allows quantity.Time e.at) (happening_fits n e.happening)
          (happening_fits n (with_kind kind e.happening)) (fits_with n kind e.happening fits) h)
      | inr other ↦ rw other h
    ]

known_with : (c : ScenarioData) (kind : ScenarioEventKind) (h : ScenarioHappening) → kind_names_are_known c.cables c.sinks kind ≡ true
    → names_are_known c.cables c.sinks h ≡ true
    → names_are_known c.cables c.sinks (with_kind kind h) ≡ true
known_with c kind (scenario_happening.OnPort port old) known h = known
known_with c kind (scenario_happening.Budget mw) known h = refl

known_changed : (c : ScenarioData) (id : ℕ) (kind : ScenarioEventKind) (e : ScenarioEvent)
    → kind_names_are_known c.cables c.sinks kind ≡ true → names_are_known c.cables c.sinks e.happening ≡ true
    → names_are_known c.cables c.sinks (changed_event id kind e).happening ≡ true
known_changed c id kind e known h =
    elim (cases_Bool (e.id == id)) [
      | inl same ↦ rw same (known_with c kind e.happening known h)
      | inr other ↦ rw other h
    ]

pub valid_change : (n : ℕ) (c : ScenarioData) (id : ℕ) (kind : EditKind) → IsValid n c → IsAccepted n c (Change id kind)
    → IsValid n (outcome c (Change id kind))
valid_change n c id kind v a =
    let f : ScenarioEvent → ScenarioEvent = changed_event id (event_kind_of kind) in
    let fits = kind_fits-known n c kind v a.name_known a.in_range in
    let known = kind_names-known c kind a.name_known in
    valid_events n c (map f c.events)
    (omega (arith, length-map c.events f, v.few_events))
    (ids_differ-map f (id_of_changed id (event_kind_of kind)) c.events ∙ v.events_differ)
    (list_all-to_map (event_fits n) f (λ e h. fits_changed n id (event_kind_of kind) e fits h) c.events v.events_fit)
    (list_all-to_map (λ (e : ScenarioEvent). names_are_known c.cables c.sinks e.happening) f
    (λ e h. known_changed c id (event_kind_of kind) e known h) c.events v.names_known)
    (rw (least_map c.budget_mw f (budget_of_changed id (event_kind_of kind)) c.events) v.funded) v
