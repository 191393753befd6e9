-- A file to which no refusal applies gives a scenario that keeps every limit.
use Rattle.std.proofs.Common.{◌≡◌, ℕ, ◌≤◌, Bool, true, false, not, ◌||◌, ◌==◌, List, [], ◌∷◌, length, map, refl, arith, lit<, Bor, BTreeMap}
use Rattle.std.proofs.Common.{String, Global}
use Rattle.std.specs.Prelude.{nat_lt, nat_le, All}
use Rattle.std.specs.List.{list_any, list_all}
use Rattle.std.proofs.lemmas.Bool.{and_parts, or_parts, not-false}
use Rattle.std.proofs.lemmas.Bool.Decides.{nat_tests}
use Rattle.std.proofs.lemmas.List.Elements.{All-nil, All-cons}
use Rattle.toml.specs.Data.{Members}
use Rattle.toml.specs.View.{table_view}
use Rattle.toml.specs.declared.value.Value.{Value}
use Rattle.pd_setup.specs.Sinks.{IsSink}
use Rattle.pd_setup.specs.Settings.{IsSettings}
use Rattle.pd_scenario.specs.Names.{is_name}
use Rattle.pd_scenario.specs.Scenarios.{ScenarioData, IsValid, event_fits, names_differ, ids_differ, names_are_known, least_budget}
use Rattle.pd_scenario.specs.Scenarios.{floors_mw, is_funded}
use Rattle.pd_scenario.specs.declared.limits.Quantity.TheVariants as quantity
use Rattle.pd_scenario.specs.declared.named.NamedCable.{NamedCable}
use Rattle.pd_scenario.specs.declared.named.NamedSink.{NamedSink}
use Rattle.pd_scenario.specs.declared.event.ScenarioEvent.{ScenarioEvent}
use Rattle.pd_scenario_tables.specs.declared.schema.Version.{Version}
use Rattle.pd_scenario_tables.specs.declared.schema.TableKind.{TableKind}
use Rattle.pd_scenario_tables.specs.declared.schema.TableKind.TheVariants.{Top, Port, Cable, Sink, Event}
use Rattle.pd_scenario_tables.specs.declared.schema.Key.TheVariants as key
use Rattle.pd_scenario_tables.specs.declared.schema.Need.TheVariants.{Required}
use Rattle.pd_scenario_tables.specs.declared.schema.Form.TheVariants as form
use Rattle.pd_scenario_tables.specs.declared.fault.ScenarioFault.{ScenarioFault}
use Rattle.pd_scenario_tables.specs.declared.fault.ScenarioFault.TheVariants as fault
use Rattle.pd_scenario_tables.specs.Schema.{rule}
use Rattle.pd_scenario_tables.specs.Tables.{event_at, fails, event_fails, is_sound, is_sound_event, is_sound_port, IsSound, IsSoundPort}
use Rattle.pd_scenario_tables.specs.Seen.{views}
use Rattle.pd_scenario_tables.specs.Convert.{settings_of, cable_of, sink_of, event_of}
use Rattle.pd_scenario_text.specs.FileTables.{Tables, scenario_of}
use Rattle.pd_scenario_text.specs.Refusals.{fails_somewhere, has_duplicate, has_unknown_name, exceeds_budget, exceed_limits, exceeds_limit}
use Rattle.pd_scenario_tables.proofs.Sound.{holds, needed}
use Rattle.pd_scenario_tables.proofs.Parts.{cable_named, sink_named, sink_fits, port_fits}
use Rattle.pd_scenario_tables.proofs.Events.{event_fit}
use Rattle.pd_scenario_text.proofs.Decided.{Clean, Last}

-- ---- where a refusal applies nowhere

record Nowhere (refusal : ScenarioFault) (ports : ℕ) (d : Tables) : Type 0 where
  top : fails refusal d.version ports Top d.top ≡ false
  each_port : list_any (fails refusal d.version ports Port) d.ports ≡ false
  cables : list_any (fails refusal d.version ports Cable) d.cables ≡ false
  sinks : list_any (fails refusal d.version ports Sink) d.sinks ≡ false
  events : list_any (event_fails refusal d.version ports) d.events ≡ false

nowhere : (refusal : ScenarioFault) (ports : ℕ) (d : Tables) → fails_somewhere refusal ports d ≡ false → Nowhere refusal ports d
unfolding fails_somewhere
nowhere refusal ports d h =
    let a = or_parts (fails refusal d.version ports Top d.top) (list_any (fails refusal d.version ports Port) d.ports
    || (list_any (fails refusal d.version ports Cable) d.cables
    || (list_any (fails refusal d.version ports Sink) d.sinks || list_any (event_fails refusal d.version ports) d.events))) h in
    let b = or_parts (list_any (fails refusal d.version ports Port) d.ports) (list_any (fails refusal d.version ports Cable) d.cables
    || (list_any (fails refusal d.version ports Sink) d.sinks || list_any (event_fails refusal d.version ports) d.events)) a.1 in
    let c = or_parts (list_any (fails refusal d.version ports Cable) d.cables) (list_any (fails refusal d.version ports Sink) d.sinks
    || list_any (event_fails refusal d.version ports) d.events) b.1 in
    let e = or_parts (list_any (fails refusal d.version ports Sink) d.sinks) (list_any (event_fails refusal d.version ports) d.events)
    c.1 in
    record { top = a.0; each_port = b.0; cables = c.0; sinks = e.0; events = e.1 }

sound : (version : Version) (ports : ℕ) (kind : TableKind) (t : Members) → fails fault.MissingKey version ports kind t ≡ false
    → fails fault.Range version ports kind t ≡ false → fails fault.Name version ports kind t ≡ false
    → is_sound version ports kind t ≡ true
unfolding is_sound
sound version ports kind t a b c = rw (a, b, c)

each_sound : (version : Version) (ports : ℕ) (kind : TableKind) (ts : List Members)
    → list_any (fails fault.MissingKey version ports kind) ts ≡ false → list_any (fails fault.Range version ports kind) ts ≡ false
    → list_any (fails fault.Name version ports kind) ts ≡ false → list_all (is_sound version ports kind) ts ≡ true
each_sound version ports kind [] a b c = refl
each_sound version ports kind (t ∷ ts) a b c =
    let x = or_parts (fails fault.MissingKey version ports kind t) (list_any (fails fault.MissingKey version ports kind) ts) a in
    let y = or_parts (fails fault.Range version ports kind t) (list_any (fails fault.Range version ports kind) ts) b in
    let z = or_parts (fails fault.Name version ports kind t) (list_any (fails fault.Name version ports kind) ts) c in
    rw (sound version ports kind t x.0 y.0 z.0, each_sound version ports kind ts x.1 y.1 z.1)

events_sound : (version : Version) (ports : ℕ) (ts : List Members) → list_any (event_fails fault.MissingKey version ports) ts ≡ false
    → list_any (event_fails fault.Range version ports) ts ≡ false
    → list_any (event_fails fault.Name version ports) ts ≡ false → list_all (is_sound_event version ports) ts ≡ true
events_sound version ports [] a b c = refl
events_sound version ports (t ∷ ts) a b c =
    let x = or_parts (event_fails fault.MissingKey version ports t) (list_any (event_fails fault.MissingKey version ports) ts) a in
    let y = or_parts (event_fails fault.Range version ports t) (list_any (event_fails fault.Range version ports) ts) b in
    let z = or_parts (event_fails fault.Name version ports t) (list_any (event_fails fault.Name version ports) ts) c in
    rw (sound version ports (Event (event_at version t)) t x.0 y.0 z.0, events_sound version ports ts x.1 y.1 z.1)

port_sound : (version : Version) (ports : ℕ) (t : Members) → is_sound version ports Port t ≡ true
    → fails fault.Supplies version ports Port t ≡ false → is_sound_port version ports t ≡ true
unfolding is_sound_port
port_sound version ports t a b = rw (a, b)

ports_sound : (version : Version) (ports : ℕ) (ts : List Members) → list_any (fails fault.MissingKey version ports Port) ts ≡ false
    → list_any (fails fault.Range version ports Port) ts ≡ false
    → list_any (fails fault.Name version ports Port) ts ≡ false → list_any (fails fault.Supplies version ports Port) ts ≡ false
    → list_all (is_sound_port version ports) ts ≡ true
ports_sound version ports [] a b c e = refl
ports_sound version ports (t ∷ ts) a b c e =
    let x = or_parts (fails fault.MissingKey version ports Port t) (list_any (fails fault.MissingKey version ports Port) ts) a in
    let y = or_parts (fails fault.Range version ports Port t) (list_any (fails fault.Range version ports Port) ts) b in
    let z = or_parts (fails fault.Name version ports Port t) (list_any (fails fault.Name version ports Port) ts) c in
    let w = or_parts (fails fault.Supplies version ports Port t) (list_any (fails fault.Supplies version ports Port) ts) e in
    rw (port_sound version ports t (sound version ports Port t x.0 y.0 z.0) w.0, ports_sound version ports ts x.1 y.1 z.1 w.1)

pub sound_cables : (ports : ℕ) (d : Tables) → Clean ports d → list_all (is_sound d.version ports Cable) d.cables ≡ true
sound_cables ports d h =
    each_sound d.version ports Cable d.cables (nowhere fault.MissingKey ports d h.complete).cables
    (nowhere fault.Range ports d h.ranged).cables (nowhere fault.Name ports d h.named).cables

pub sound_sinks : (ports : ℕ) (d : Tables) → Clean ports d → list_all (is_sound d.version ports Sink) d.sinks ≡ true
sound_sinks ports d h =
    each_sound d.version ports Sink d.sinks (nowhere fault.MissingKey ports d h.complete).sinks
    (nowhere fault.Range ports d h.ranged).sinks (nowhere fault.Name ports d h.named).sinks

pub sound_events : (ports : ℕ) (d : Tables) → Clean ports d → list_all (is_sound_event d.version ports) d.events ≡ true
sound_events ports d h =
    events_sound d.version ports d.events (nowhere fault.MissingKey ports d h.complete).events
    (nowhere fault.Range ports d h.ranged).events (nowhere fault.Name ports d h.named).events

pub sound_ports : (ports : ℕ) (d : Tables) → Clean ports d → fails_somewhere fault.Supplies ports d ≡ false
    → list_all (is_sound_port d.version ports) d.ports ≡ true
sound_ports ports d h supplied =
    ports_sound d.version ports d.ports (nowhere fault.MissingKey ports d h.complete).each_port
    (nowhere fault.Range ports d h.ranged).each_port (nowhere fault.Name ports d h.named).each_port
    (nowhere fault.Supplies ports d supplied).each_port

sound_top : (ports : ℕ) (d : Tables) → Clean ports d → is_sound d.version ports Top d.top ≡ true
sound_top ports d h =
    sound d.version ports Top d.top (nowhere fault.MissingKey ports d h.complete).top (nowhere fault.Range ports d h.ranged).top
    (nowhere fault.Name ports d h.named).top

-- the tables that the code keeps are sound
each_table : (p : Members → Bool) (Q : Members → Type 0) → ((t : Members) → p t ≡ true → Q t)
    → (ts : List (Bor (BTreeMap (String Global) Value))) → list_all p (views ts) ≡ true
    → All (λ (t : Bor (BTreeMap (String Global) Value)). Q (table_view t.now)) ts
each_table p Q each [] h = All-nil (λ (t : Bor (BTreeMap (String Global) Value)). Q (table_view t.now))
each_table p Q each (t ∷ ts) h =
    let both = and_parts (p (table_view t.now)) (list_all p (views ts)) h in
    All-cons (λ (u : Bor (BTreeMap (String Global) Value)). Q (table_view u.now)) t ts (each (table_view t.now) both.0)
    (each_table p Q each ts both.1)

pub tables_of_cables_sound : (version : Version) (ports : ℕ) (ts : List (Bor (BTreeMap (String Global) Value)))
    → list_all (is_sound version ports Cable) (views ts) ≡ true
    → All (λ (t : Bor (BTreeMap (String Global) Value)). IsSound Cable (table_view t.now)) ts
tables_of_cables_sound version ports ts h =
    each_table (is_sound version ports Cable) (IsSound Cable) (λ t s. record { version = version; ports = ports; sound = s }) ts h

pub tables_of_sinks_sound : (version : Version) (ports : ℕ) (ts : List (Bor (BTreeMap (String Global) Value)))
    → list_all (is_sound version ports Sink) (views ts) ≡ true
    → All (λ (t : Bor (BTreeMap (String Global) Value)). IsSound Sink (table_view t.now)) ts
tables_of_sinks_sound version ports ts h =
    each_table (is_sound version ports Sink) (IsSound Sink) (λ t s. record { version = version; ports = ports; sound = s }) ts h

pub tables_of_events_sound : (version : Version) (ports : ℕ) (ts : List (Bor (BTreeMap (String Global) Value)))
    → list_all (is_sound_event version ports) (views ts) ≡ true
    → All (λ (t : Bor (BTreeMap (String Global) Value)). IsSound (Event (event_at version (table_view t.now))) (table_view t.now)) ts
tables_of_events_sound version ports ts h =
    each_table (is_sound_event version ports) (λ t. IsSound (Event (event_at version t)) t)
    (λ t s. record { version = version; ports = ports; sound = s }) ts h

pub tables_of_ports_sound : (version : Version) (ports : ℕ) (ts : List (Bor (BTreeMap (String Global) Value)))
    → list_all (is_sound_port version ports) (views ts) ≡ true
    → All (λ (t : Bor (BTreeMap (String Global) Value)). IsSoundPort (table_view t.now)) ts
tables_of_ports_sound version ports ts h =
    each_table (is_sound_port version ports) IsSoundPort (λ t s. record { version = version; ports = ports; sound = s }) ts h

-- ---- each of a list

all_of : {A B : Type 0} (p : A → Bool) (q : B → Bool) (f : A → B) → ((x : A) → p x ≡ true → q (f x) ≡ true) → (xs : List A)
    → list_all p xs ≡ true → list_all q (map f xs) ≡ true
all_of p q f each [] h = refl
all_of p q f each (x ∷ xs) h =
    let both = and_parts (p x) (list_all p xs) h in
    rw (each x both.0, all_of p q f each xs both.1)

every : {A B : Type 0} (p : A → Bool) (Q : B → Type 0) (f : A → B) → ((x : A) → p x ≡ true → Q (f x)) → (xs : List A)
    → list_all p xs ≡ true → All Q (map f xs)
every p Q f each [] h = All-nil Q
every p Q f each (x ∷ xs) h =
    let both = and_parts (p x) (list_all p xs) h in
    All-cons Q (f x) (map f xs) (each x both.0) (every p Q f each xs both.1)

-- ---- the whole

record Few (ports : ℕ) (c : ScenarioData) : Type 0 where
  settings : length c.settings ≡ ports
  events : length c.events ≤ 4096
  cables : length c.cables ≤ 64
  sinks : length c.sinks ≤ 64

few_of : (ports p e c s : ℕ) → (not (p == ports) || (nat_lt 4096 e || (nat_lt 64 c || nat_lt 64 s))) ≡ false → (p ≡ ports) × (e ≤ 4096)
    × (c ≤ 64) × (s ≤ 64)
few_of ports p e c s h =
    let a = or_parts (not (p == ports)) (nat_lt 4096 e || (nat_lt 64 c || nat_lt 64 s)) h in
    let b = or_parts (nat_lt 4096 e) (nat_lt 64 c || nat_lt 64 s) a.1 in
    let d = or_parts (nat_lt 64 c) (nat_lt 64 s) b.1 in
    let x = a.0 in
    let y = b.0 in
    let z = d.0 in
    let w = d.1 in
    (grind (arith, nat_tests), grind (arith, nat_tests), grind (arith, nat_tests), grind (arith, nat_tests))

few_is : (ports : ℕ) (c : ScenarioData) → exceeds_limit ports c ≡ false → Few ports c
unfolding exceed_limits
few_is ports c h =
    let all = few_of ports (length c.settings) (length c.events) (length c.cables) (length c.sinks) h in
    record { settings = all.0; events = all.1; cables = all.2; sinks = all.3 }

record Single (c : ScenarioData) : Type 0 where
  cables : names_differ (map (λ (cable : NamedCable). cable.name) c.cables) ≡ true
  sinks : names_differ (map (λ (sink : NamedSink). sink.name) c.sinks) ≡ true
  events : ids_differ c.events ≡ true

single_is : (c : ScenarioData) → has_duplicate c ≡ false → Single c
unfolding has_duplicate
single_is c h =
    let x = names_differ (map (λ (cable : NamedCable). cable.name) c.cables) in
    let y = names_differ (map (λ (sink : NamedSink). sink.name) c.sinks) in
    let z = ids_differ c.events in
    let a = or_parts (not x) (not y || not z) h in
    let b = or_parts (not y) (not z) a.1 in
    record { cables = not-false x a.0; sinks = not-false y b.0; events = not-false z b.1 }

known_is : (c : ScenarioData) → has_unknown_name c ≡ false → list_all (λ (e : ScenarioEvent). names_are_known c.cables c.sinks e.happening)
    c.events ≡ true
unfolding has_unknown_name
known_is c h = not-false (list_all (λ (e : ScenarioEvent). names_are_known c.cables c.sinks e.happening) c.events) h

reached : (a b : ℕ) → nat_le a b ≡ true → a ≤ b
reached a b h = grind (arith, nat_tests)

funded_is : (c : ScenarioData) → exceeds_budget c ≡ false → floors_mw c.settings ≤ least_budget c.budget_mw c.events
unfolding exceeds_budget
funded_is c h = reached (floors_mw c.settings) (least_budget c.budget_mw c.events) (not-false (is_funded c) h)

pub valid : (ports : ℕ) (d : Tables) → 1 ≤ ports → ports ≤ 8 → Last ports d → exceeds_limit ports (scenario_of d) ≡ false
    → IsValid ports (scenario_of d)
valid ports d some eight l limits =
    let h = l.later.tables in
    let few = few_is ports (scenario_of d) limits in
    let single = single_is (scenario_of d) l.later.single in
    let cables = sound_cables ports d h in
    let sinks = sound_sinks ports d h in
    let top = sound_top ports d h in
    record {
      some_port = some;
      few_ports = eight;
      settings_count = few.settings;
      few_cables = few.cables;
      few_sinks = few.sinks;
      few_events = few.events;
      settings_fit =
          every (is_sound_port d.version ports) IsSettings settings_of (λ t s. port_fits d.version ports t s) d.ports
          (sound_ports ports d h l.later.supplied);
      cables_named =
          all_of (is_sound d.version ports Cable) (λ (cable : NamedCable). is_name cable.name) cable_of
          (λ t s. cable_named d.version ports t s) d.cables cables;
      sinks_named =
          all_of (is_sound d.version ports Sink) (λ (sink : NamedSink). is_name sink.name) sink_of (λ t s. sink_named d.version ports t s)
          d.sinks sinks;
      sinks_fit =
          every (is_sound d.version ports Sink) (λ (sink : NamedSink). IsSink sink.sink) sink_of (λ t s. sink_fits d.version ports t s)
          d.sinks sinks;
      cables_differ = single.cables;
      sinks_differ = single.sinks;
      events_differ = single.events;
      events_fit =
          all_of (is_sound_event d.version ports) (event_fits ports) (event_of d.version) (λ t s. event_fit d.version ports t eight s)
          d.events (sound_events ports d h);
      names_known = known_is (scenario_of d) l.known;
      budget_fits =
          needed d.version ports key.Budget quantity.Budget d.top
          (holds d.version ports Top d.top (rule key.Budget Required (form.Number quantity.Budget)) top (2, lit< tt, refl));
      funded = funded_is (scenario_of d) l.funded;
      end_fits =
          needed d.version ports key.End quantity.Time d.top
          (holds d.version ports Top d.top (rule key.End Required (form.Number quantity.Time)) top (1, lit< tt, refl));
    }
