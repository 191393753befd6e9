-- Names that nothing uses change nothing.
use Rattle.std.proofs.Common.{◌≡◌, ℕ, ◌*◌, Bool, true, false, not, ◌||◌, if◌then◌else◌, List, [], ◌∷◌, length, map, Option, None, Some}
use Rattle.std.proofs.Common.{option_map, refl, sym, ap, ◌∙◌}
use Rattle.std.specs.Prelude.{Contains, bytes_eq, ◌==◌, filter, find, fold, unwrap_or}
use Rattle.std.specs.List.{cons_option, list_any, range_with_len}
use Rattle.std.proofs.lemmas.List.Elements.{All-contains}
use Rattle.std.proofs.lemmas.Slice.Eq.{bytes_eq-Decides}
use Rattle.pd_setup.specs.Events.{EventData, PortEventKind}
use Rattle.pd_setup.specs.declared.event.EventKind.TheVariants.{Attach, Detach, Demand, Lose, Damage, GetSource, GetSink}
use Rattle.pd_setup.specs.declared.event.Happening.{Happening}
use Rattle.pd_setup.specs.declared.event.Happening.TheVariants as happens
use Rattle.pd_scenario.specs.declared.event.ScenarioEvent.{ScenarioEvent}
use Rattle.pd_scenario.specs.declared.event.ScenarioHappening.{ScenarioHappening}
use Rattle.pd_scenario.specs.declared.event.ScenarioHappening.TheVariants.{OnPort, Budget}
use Rattle.pd_scenario.specs.declared.named.NamedCable.{NamedCable}
use Rattle.pd_scenario.specs.declared.named.NamedSink.{NamedSink}
use Rattle.pd_scenario.specs.Events.{ScenarioEventKind}
use Rattle.pd_scenario.specs.Plan.{Plan}
use Rattle.pd_scenario.specs.Plans.{changes_of, plan_of}
use Rattle.pd_scenario.specs.Scenarios.{ScenarioData, cable_named, sink_named}
use Rattle.pd_scenario.specs.Script.{event_for, events_for, no_cable, no_sink, put, resolved, script, seen_by}
use Rattle.pd_warn.specs.declared.warning.Warning.{Warning}
use Rattle.pd_warn.specs.declared.warning.Warning.TheVariants.{UnusedCable, UnusedSink}
use Rattle.pd_warn.specs.Stated.{has_cable, has_sink, kind_has_cable, kind_has_sink}
use Rattle.pd_warn.specs.Truth.{UnusedNamesChangeNothing, without_cable, without_sink}
use Rattle.pd_warn.specs.Warnings.{AreWarnings}
use Rattle.pd_warn.proofs.OfRun.{IsSo, all_so}

-- ---- looking up another name

-- what is left out isn't looked for
found_first : {X : Type 0} (keeps looks : X → Bool) (x : X) (xs : List X) (b : Bool) → keeps x ≡ b → (keeps x ≡ false → looks x ≡ false)
    → find looks (filter keeps xs) ≡ find looks xs
    → find looks (if b then x ∷ filter keeps xs else filter keeps xs) ≡ find looks (x ∷ xs)
found_first keeps looks x xs true e h rest = ap (λ o. if looks x then Some x else o) rest
found_first keeps looks x xs false e h rest = rw (h e) rest

found : {X : Type 0} (keeps looks : X → Bool) → ((x : X) → keeps x ≡ false → looks x ≡ false) → (xs : List X)
    → find looks (filter keeps xs) ≡ find looks xs
found keeps looks h [] = refl
found keeps looks h (x ∷ xs) = found_first keeps looks x xs (keeps x) refl (h x) (found keeps looks h xs)

-- a text that is one name isn't another
other_name : (text name other : List ℕ) → bytes_eq other name ≡ false → not (bytes_eq text name) ≡ false → bytes_eq text other ≡ false
other_name text name other differ same = by_test (bytes_eq text other) refl (bytes_eq text name) refl same where
  by_test : (b : Bool) → bytes_eq text other ≡ b → (c : Bool) → bytes_eq text name ≡ c → not c ≡ false → b ≡ false
  by_test false e c f h = refl
  by_test true e false f h = h
  by_test true e true f h =
      let alike : other ≡ name = sym ((bytes_eq-Decides text other).0 e) ∙ (bytes_eq-Decides text name).0 f in
      sym ((bytes_eq-Decides other name).1 alike) ∙ differ

cable_same : (cables : List NamedCable) (name other : List ℕ) → bytes_eq other name ≡ false
    → cable_named (filter (λ (cable : NamedCable). not (bytes_eq cable.name name)) cables) other ≡ cable_named cables other
cable_same cables name other differ =
    ap (option_map (λ (c : NamedCable). c.cable))
    (found (λ (cable : NamedCable). not (bytes_eq cable.name name)) (λ (cable : NamedCable). bytes_eq cable.name other)
    (λ (cable : NamedCable) left. other_name cable.name name other differ left) cables)

sink_same : (sinks : List NamedSink) (name other : List ℕ) → bytes_eq other name ≡ false
    → sink_named (filter (λ (sink : NamedSink). not (bytes_eq sink.name name)) sinks) other ≡ sink_named sinks other
sink_same sinks name other differ =
    ap (option_map (λ (s : NamedSink). s.sink))
    (found (λ (sink : NamedSink). not (bytes_eq sink.name name)) (λ (sink : NamedSink). bytes_eq sink.name other)
    (λ (sink : NamedSink) left. other_name sink.name name other differ left) sinks)

-- ---- an event that doesn't use the name

-- these cables and sinks are as good as those to an event
abbrev AreAlikeFor : List NamedCable → List NamedSink → List NamedCable → List NamedSink → ScenarioEventKind → Type 0
AreAlikeFor cables sinks others more kind = resolved cables sinks kind ≡ resolved others more kind

cable_kind : (cables : List NamedCable) (sinks : List NamedSink) (name : List ℕ) (kind : ScenarioEventKind)
    → kind_has_cable name kind ≡ false
    → AreAlikeFor (filter (λ (cable : NamedCable). not (bytes_eq cable.name name)) cables) sinks cables sinks kind
cable_kind cables sinks name (Attach cable sink) unused =
    ap (λ o. Attach (unwrap_or o no_cable) (unwrap_or (sink_named sinks sink) no_sink)) (cable_same cables name cable unused)
cable_kind cables sinks name Detach unused = refl
cable_kind cables sinks name (Demand mw) unused = refl
cable_kind cables sinks name Lose unused = refl
cable_kind cables sinks name (Damage harm) unused = refl
cable_kind cables sinks name GetSource unused = refl
cable_kind cables sinks name GetSink unused = refl

sink_kind : (cables : List NamedCable) (sinks : List NamedSink) (name : List ℕ) (kind : ScenarioEventKind)
    → kind_has_sink name kind ≡ false
    → AreAlikeFor cables (filter (λ (sink : NamedSink). not (bytes_eq sink.name name)) sinks) cables sinks kind
sink_kind cables sinks name (Attach cable sink) unused =
    ap (λ o. Attach (unwrap_or (cable_named cables cable) no_cable) (unwrap_or o no_sink)) (sink_same sinks name sink unused)
sink_kind cables sinks name Detach unused = refl
sink_kind cables sinks name (Demand mw) unused = refl
sink_kind cables sinks name Lose unused = refl
sink_kind cables sinks name (Damage harm) unused = refl
sink_kind cables sinks name GetSource unused = refl
sink_kind cables sinks name GetSink unused = refl

abbrev SeenAlike : List NamedCable → List NamedSink → List NamedCable → List NamedSink → ℕ → ℕ → ScenarioHappening → Type 0
SeenAlike cables sinks others more port id h = seen_by cables sinks port id h ≡ seen_by others more port id h

on_port : (cables : List NamedCable) (sinks : List NamedSink) (others : List NamedCable) (more : List NamedSink) (port id other : ℕ)
    (kind : ScenarioEventKind) → AreAlikeFor cables sinks others more kind → SeenAlike cables sinks others more port id (OnPort other kind)
on_port cables sinks others more port id other kind same =
    ap (λ (k : PortEventKind). if other == port then Some (happens.Port id k) else None) same

cable_seen : (cables : List NamedCable) (sinks : List NamedSink) (name : List ℕ) (port id : ℕ) (h : ScenarioHappening)
    → has_cable name h ≡ false
    → SeenAlike (filter (λ (cable : NamedCable). not (bytes_eq cable.name name)) cables) sinks cables sinks port id h
cable_seen cables sinks name port id (OnPort other kind) unused =
    on_port _ sinks cables sinks port id other kind (cable_kind cables sinks name kind unused)
cable_seen cables sinks name port id (Budget mw) unused = refl

sink_seen : (cables : List NamedCable) (sinks : List NamedSink) (name : List ℕ) (port id : ℕ) (h : ScenarioHappening)
    → has_sink name h ≡ false
    → SeenAlike cables (filter (λ (sink : NamedSink). not (bytes_eq sink.name name)) sinks) cables sinks port id h
sink_seen cables sinks name port id (OnPort other kind) unused =
    on_port cables _ cables sinks port id other kind (sink_kind cables sinks name kind unused)
sink_seen cables sinks name port id (Budget mw) unused = refl

-- ---- all events

either : (a b : Bool) → a || b ≡ false → (a ≡ false) × (b ≡ false)
either true b h = (h, absurd (cc))
either false b h = (refl, h)

events_alike : (cables : List NamedCable) (sinks : List NamedSink) (others : List NamedCable) (more : List NamedSink) (port : ℕ)
    (uses : ScenarioHappening → Bool)
    → ((id : ℕ) (h : ScenarioHappening) → uses h ≡ false → SeenAlike cables sinks others more port id h) → (events : List ScenarioEvent)
    → list_any (λ (e : ScenarioEvent). uses e.happening) events ≡ false
    → events_for cables sinks port events ≡ events_for others more port events
events_alike cables sinks others more port uses same [] unused = refl
events_alike cables sinks others more port uses same (e ∷ es) unused =
    let (first, rest) = either (uses e.happening) (list_any (λ (x : ScenarioEvent). uses x.happening) es) unused in
    let here : event_for cables sinks port e ≡ event_for others more port e =
    ap (λ (o : Option Happening). option_map (λ (h : Happening). let y : EventData = record { at = e.at; happening = h } in y) o)
    (same e.id e.happening first) in
    ap (λ (o : Option EventData). cons_option o (events_for cables sinks port es)) here
    ∙ ap (λ (v : List EventData). cons_option (event_for others more port e) v)
    (events_alike cables sinks others more port uses same es rest)

scripts_alike : (cables : List NamedCable) (sinks : List NamedSink) (others : List NamedCable) (more : List NamedSink)
    (events : List ScenarioEvent) → ((port : ℕ) → events_for cables sinks port events ≡ events_for others more port events)
    → (ports : List ℕ) → map (script cables sinks events) ports ≡ map (script others more events) ports
unfolding script
scripts_alike cables sinks others more events same [] = refl
scripts_alike cables sinks others more events same (p ∷ ps) =
    ap (λ (v : List EventData). fold put [] v ∷ map (script cables sinks events) ps) (same p)
    ∙ ap (λ v. script others more events p ∷ v) (scripts_alike cables sinks others more events same ps)

-- so the plan is the same
plan_alike : (c : ScenarioData) (others : List NamedCable) (more : List NamedSink)
    → ((port : ℕ) → events_for others more port c.events ≡ events_for c.cables c.sinks port c.events)
    → plan_of (record c { cables = others; sinks = more }) ≡ plan_of c
unfolding plan_of
plan_alike c others more same =
    let with_scripts : List (List EventData) → Plan = λ scripts. record {
      settings = c.settings;
      scripts = scripts;
      budget = c.budget_mw * 1000;
      forces = changes_of c.events;
      end = c.end_us;
    } in
    ap with_scripts (scripts_alike others more c.cables c.sinks c.events same (range_with_len 1 (length c.settings)))

unused_cable : (n : ℕ) (c : ScenarioData) (ws : List Warning) → AreWarnings n c ws → (name : List ℕ) → Contains ws (UnusedCable name)
    → plan_of (without_cable name c) ≡ plan_of c
unused_cable n c ws told name warned =
    let unused = All-contains (IsSo c) ws (UnusedCable name) (all_so n c ws told) warned in
    plan_alike c (without_cable name c).cables c.sinks
    (λ port. events_alike _ c.sinks c.cables c.sinks port (has_cable name) (cable_seen c.cables c.sinks name port) c.events unused)

unused_sink : (n : ℕ) (c : ScenarioData) (ws : List Warning) → AreWarnings n c ws → (name : List ℕ) → Contains ws (UnusedSink name)
    → plan_of (without_sink name c) ≡ plan_of c
unused_sink n c ws told name warned =
    let unused = All-contains (IsSo c) ws (UnusedSink name) (all_so n c ws told) warned in
    plan_alike c c.cables (without_sink name c).sinks
    (λ port. events_alike c.cables _ c.cables c.sinks port (has_sink name) (sink_seen c.cables c.sinks name port) c.events unused)

pub unused_names_change_nothing : UnusedNamesChangeNothing
unused_names_change_nothing = record { cables = unused_cable; sinks = unused_sink }
