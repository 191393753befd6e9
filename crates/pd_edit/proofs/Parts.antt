-- A valid scenario with one part replaced is valid where that part keeps what it is to keep.
use Rattle.std.proofs.Common.{◌≡◌, ℕ, ◌≤◌, true, List, length, map, refl}
use Rattle.std.specs.Prelude.{All}
use Rattle.std.specs.List.{list_all}
use Rattle.pd_setup.specs.Sinks.{IsSink}
use Rattle.pd_setup.specs.Settings.{SettingsData, IsSettings}
use Rattle.pd_scenario.specs.declared.limits.Quantity.TheVariants as quantity
use Rattle.pd_scenario.specs.declared.named.NamedCable.{NamedCable}
use Rattle.pd_scenario.specs.declared.named.NamedSink.{NamedSink}
use Rattle.pd_scenario.specs.declared.event.ScenarioEvent.{ScenarioEvent}
use Rattle.pd_scenario.specs.Names.{is_name}
use Rattle.pd_scenario.specs.Limits.{allows, most_ports, most_names, most_events}
use Rattle.pd_scenario.specs.Scenarios.{ScenarioData, IsValid, floors_mw, ids_differ, event_fits, names_differ, names_are_known}
use Rattle.pd_scenario.specs.Scenarios.{least_budget}

-- ---- what a scenario keeps, part by part

record Ports (n : ℕ) (settings : List SettingsData) : Type 0 where
  count : length settings ≡ n
  fit : All IsSettings settings

record Cables (cables : List NamedCable) : Type 0 where
  few : length cables ≤ most_names
  named : list_all (λ (cable : NamedCable). is_name cable.name) cables ≡ true
  differ : names_differ (map (λ (cable : NamedCable). cable.name) cables) ≡ true

record Sinks (sinks : List NamedSink) : Type 0 where
  few : length sinks ≤ most_names
  named : list_all (λ (sink : NamedSink). is_name sink.name) sinks ≡ true
  fit : All (λ (sink : NamedSink). IsSink sink.sink) sinks
  differ : names_differ (map (λ (sink : NamedSink). sink.name) sinks) ≡ true

record Events (n : ℕ) (events : List ScenarioEvent) : Type 0 where
  few : length events ≤ most_events
  differ : ids_differ events ≡ true
  fit : list_all (event_fits n) events ≡ true

record Numbers (n : ℕ) (c : ScenarioData) : Type 0 where
  some_port : 1 ≤ n
  few_ports : n ≤ most_ports
  budget : allows quantity.Budget c.budget_mw ≡ true
  end : allows quantity.Time c.end_us ≡ true

abbrev Known : List NamedCable → List NamedSink → List ScenarioEvent → Type 0
Known cables sinks events = list_all (λ (e : ScenarioEvent). names_are_known cables sinks e.happening) events ≡ true

-- a scenario is valid by its parts, where its events name what is there and its floors fit the budget
by_parts : (n : ℕ) (c : ScenarioData) → Numbers n c → Ports n c.settings → Cables c.cables → Sinks c.sinks → Events n c.events
    → Known c.cables c.sinks c.events → floors_mw c.settings ≤ least_budget c.budget_mw c.events → IsValid n c
by_parts n c numbers ports cables sinks events known funded = record {
  some_port = numbers.some_port;
  few_ports = numbers.few_ports;
  settings_count = ports.count;
  few_cables = cables.few;
  few_sinks = sinks.few;
  few_events = events.few;
  settings_fit = ports.fit;
  cables_named = cables.named;
  sinks_named = sinks.named;
  sinks_fit = sinks.fit;
  cables_differ = cables.differ;
  sinks_differ = sinks.differ;
  events_differ = events.differ;
  events_fit = events.fit;
  names_known = known;
  budget_fits = numbers.budget;
  funded = funded;
  end_fits = numbers.end;
}

-- the parts of a valid scenario
record Parts (n : ℕ) (c : ScenarioData) : Type 0 where
  numbers : Numbers n c
  ports : Ports n c.settings
  cables : Cables c.cables
  sinks : Sinks c.sinks
  events : Events n c.events

parts : (n : ℕ) (c : ScenarioData) → IsValid n c → Parts n c
parts n c v = record {
  numbers = record { some_port = v.some_port; few_ports = v.few_ports; budget = v.budget_fits; end = v.end_fits };
  ports = record { count = v.settings_count; fit = v.settings_fit };
  cables = record { few = v.few_cables; named = v.cables_named; differ = v.cables_differ };
  sinks = record { few = v.few_sinks; named = v.sinks_named; fit = v.sinks_fit; differ = v.sinks_differ };
  events = record { few = v.few_events; differ = v.events_differ; fit = v.events_fit };
}

same_numbers : (n : ℕ) (c d : ScenarioData) → d.budget_mw ≡ c.budget_mw → d.end_us ≡ c.end_us → Numbers n c → Numbers n d
same_numbers n c d budget end numbers = record {
  some_port = numbers.some_port;
  few_ports = numbers.few_ports;
  budget = rw budget numbers.budget;
  end = rw end numbers.end;
}

-- ---- one part replaced

pub valid_events : (n : ℕ) (c : ScenarioData) (events : List ScenarioEvent) → length events ≤ most_events
    → ids_differ events ≡ true → list_all (event_fits n) events ≡ true → Known c.cables c.sinks events
    → floors_mw c.settings ≤ least_budget c.budget_mw events → IsValid n c → IsValid n (record c { events = events })
valid_events n c events few differ fit known funded v =
    let p = parts n c v in
    let d : ScenarioData = record c { events = events } in
    let new : Events n events = record { few = few; differ = differ; fit = fit } in
    by_parts n d (same_numbers n c d refl refl p.numbers) p.ports p.cables p.sinks new known funded

pub valid_cables : (n : ℕ) (c : ScenarioData) (cables : List NamedCable) → length cables ≤ most_names
    → list_all (λ (cable : NamedCable). is_name cable.name) cables ≡ true
    → names_differ (map (λ (cable : NamedCable). cable.name) cables) ≡ true → Known cables c.sinks c.events
    → IsValid n c → IsValid n (record c { cables = cables })
valid_cables n c cables few named differ known v =
    let p = parts n c v in
    let d : ScenarioData = record c { cables = cables } in
    let new : Cables cables = record { few = few; named = named; differ = differ } in
    by_parts n d (same_numbers n c d refl refl p.numbers) p.ports new p.sinks p.events known v.funded

pub valid_sinks : (n : ℕ) (c : ScenarioData) (sinks : List NamedSink) → length sinks ≤ most_names
    → list_all (λ (sink : NamedSink). is_name sink.name) sinks ≡ true
    → All (λ (sink : NamedSink). IsSink sink.sink) sinks
    → names_differ (map (λ (sink : NamedSink). sink.name) sinks) ≡ true → Known c.cables sinks c.events
    → IsValid n c → IsValid n (record c { sinks = sinks })
valid_sinks n c sinks few named fit differ known v =
    let p = parts n c v in
    let d : ScenarioData = record c { sinks = sinks } in
    let new : Sinks sinks = record { few = few; named = named; fit = fit; differ = differ } in
    by_parts n d (same_numbers n c d refl refl p.numbers) p.ports p.cables new p.events known v.funded

pub valid_settings : (n : ℕ) (c : ScenarioData) (settings : List SettingsData) → length settings ≡ n → All IsSettings settings
    → floors_mw settings ≤ least_budget c.budget_mw c.events → IsValid n c → IsValid n (record c { settings = settings })
valid_settings n c settings count fit funded v =
    let p = parts n c v in
    let d : ScenarioData = record c { settings = settings } in
    let new : Ports n settings = record { count = count; fit = fit } in
    by_parts n d (same_numbers n c d refl refl p.numbers) new p.cables p.sinks p.events v.names_known funded

pub valid_budget : (n : ℕ) (c : ScenarioData) (mw : ℕ) → allows quantity.Budget mw ≡ true
    → floors_mw c.settings ≤ least_budget mw c.events → IsValid n c → IsValid n (record c { budget_mw = mw })
valid_budget n c mw fits funded v =
    let p = parts n c v in
    let numbers : Numbers n (record c { budget_mw = mw }) =
    record { some_port = v.some_port; few_ports = v.few_ports; budget = fits; end = v.end_fits } in
    by_parts n (record c { budget_mw = mw }) numbers p.ports p.cables p.sinks p.events v.names_known funded

pub valid_end : (n : ℕ) (c : ScenarioData) (at : ℕ) → allows quantity.Time at ≡ true → IsValid n c
    → IsValid n (record c { end_us = at })
valid_end n c at fits v =
    let p = parts n c v in
    let numbers : Numbers n (record c { end_us = at }) = record {
      some_port = v.some_port;
      few_ports = v.few_ports;
      budget = v.budget_fits;
      end = fits;
    } in
    by_parts n (record c { end_us = at }) numbers p.ports p.cables p.sinks p.events v.names_known v.funded
