-- What a scenario holds, and what each keeps.
use Rattle.std.specs.Prelude.{◌≡◌, ℕ, ◌≤◌, Bool, true, not, ◌&&◌, ◌==◌, nat_le, List, [], ◌∷◌, length, map, find, fold, min, sum_by, Option}
use Rattle.std.specs.Prelude.{Some, None, option_map, is_some, bytes_eq, All}
use Rattle.std.specs.List.{list_any, list_all, filter_map}
use Rattle.pd_identity.specs.declared.Cable.{Cable}
use Rattle.pd_setup.specs.Sinks.{SinkData, IsSink}
use Rattle.pd_setup.specs.Settings.{SettingsData, IsSettings}
use Rattle.pd_scenario.specs.Names.{is_name}
use Rattle.pd_scenario.specs.Limits.{allows, is_port, most_ports, most_names, most_events}
use Rattle.pd_scenario.specs.declared.limits.Quantity.TheVariants as quantity
use Rattle.pd_scenario.specs.declared.named.NamedCable.{NamedCable}
use Rattle.pd_scenario.specs.declared.named.NamedSink.{NamedSink}
use Rattle.pd_scenario.specs.Events.{ScenarioEventKind}
use Rattle.pd_setup.specs.declared.event.EventKind.TheVariants.{Attach, Demand, Damage}
use Rattle.pd_scenario.specs.declared.event.ScenarioHappening.{ScenarioHappening}
use Rattle.pd_scenario.specs.declared.event.ScenarioHappening.TheVariants.{OnPort, Budget}
use Rattle.pd_scenario.specs.declared.event.ScenarioEvent.{ScenarioEvent}

-- the settings of the ports, cables, sinks and events in the order of their making, the budget in mW and the end in
-- microseconds
pub record ScenarioData : Type 0 where
  pub settings : List SettingsData
  pub cables : List NamedCable
  pub sinks : List NamedSink
  pub events : List ScenarioEvent
  pub budget_mw : ℕ
  pub end_us : ℕ

-- the cable of a name, and the sink of a name
abbrev pub cable_named : List NamedCable → List ℕ → Option Cable
cable_named cables name = option_map (λ (c : NamedCable). c.cable) (find (λ (c : NamedCable). bytes_eq c.name name) cables)

abbrev pub sink_named : List NamedSink → List ℕ → Option SinkData
sink_named sinks name = option_map (λ (s : NamedSink). s.sink) (find (λ (s : NamedSink). bytes_eq s.name name) sinks)

-- no two names are the same
abbrev pub names_differ : List (List ℕ) → Bool
names_differ [] = true
names_differ (name ∷ names) = not (list_any (λ other. bytes_eq other name) names) && names_differ names

-- some event has the id
abbrev pub has_id : List ScenarioEvent → ℕ → Bool
has_id events id = list_any (λ (e : ScenarioEvent). e.id == id) events

-- no two events have one id
abbrev pub ids_differ : List ScenarioEvent → Bool
ids_differ [] = true
ids_differ (e ∷ events) = not (has_id events e.id) && ids_differ events

-- the cable and the sink that an attach names are there
abbrev pub kind_is_known : List NamedCable → List NamedSink → ScenarioEventKind → Bool
kind_is_known cables sinks (Attach cable sink) = is_some (cable_named cables cable) && is_some (sink_named sinks sink)
kind_is_known cables sinks _ = true

abbrev pub names_are_known : List NamedCable → List NamedSink → ScenarioHappening → Bool
names_are_known cables sinks (OnPort port kind) = kind_is_known cables sinks kind
names_are_known cables sinks (Budget mw) = true

-- the numbers of an event are within their limits, and its port is one of n
abbrev pub kind_fits : ScenarioEventKind → Bool
kind_fits (Attach cable sink) = is_name cable && is_name sink
kind_fits (Demand mw) = allows quantity.Demand mw
kind_fits (Damage damage) = allows quantity.DamagePlace damage.place && allows quantity.DamageMask damage.mask
kind_fits _ = true

abbrev pub happening_fits : ℕ → ScenarioHappening → Bool
happening_fits n (OnPort port kind) = is_port n port && kind_fits kind
happening_fits n (Budget mw) = allows quantity.Budget mw

abbrev pub event_fits : ℕ → ScenarioEvent → Bool
event_fits n e = (allows quantity.EventId e.id && allows quantity.Time e.at) && happening_fits n e.happening

-- the budget that an event changes to, in mW
abbrev pub budget_in : ScenarioHappening → Option ℕ
budget_in (OnPort port kind) = None
budget_in (Budget mw) = Some mw

abbrev pub budget_of : ScenarioEvent → Option ℕ
budget_of e = budget_in e.happening

-- the least of the scenario's budget and those of its events, in mW
abbrev pub least_budget : ℕ → List ScenarioEvent → ℕ
least_budget mw events = fold min mw (filter_map budget_of events)

-- the floors of ports together, in mW
abbrev pub floors_mw : List SettingsData → ℕ
floors_mw settings = sum_by (λ (s : SettingsData). s.floor_mw) settings

-- the floors add to no more than a budget, in mW
abbrev pub are_funded : List SettingsData → ℕ → Bool
are_funded settings mw = nat_le (floors_mw settings) mw

-- the floors add to no more than the least of the budget and its changes
abbrev pub is_funded : ScenarioData → Bool
is_funded c = are_funded c.settings (least_budget c.budget_mw c.events)

-- what every scenario of n ports keeps
pub record IsValid (n : ℕ) (c : ScenarioData) : Type 0 where
  pub some_port : 1 ≤ n
  pub few_ports : n ≤ most_ports
  pub settings_count : length c.settings ≡ n
  pub few_cables : length c.cables ≤ most_names
  pub few_sinks : length c.sinks ≤ most_names
  pub few_events : length c.events ≤ most_events
  pub settings_fit : All IsSettings c.settings
  pub cables_named : list_all (λ (cable : NamedCable). is_name cable.name) c.cables ≡ true
  pub sinks_named : list_all (λ (sink : NamedSink). is_name sink.name) c.sinks ≡ true
  pub sinks_fit : All (λ (sink : NamedSink). IsSink sink.sink) c.sinks
  pub cables_differ : names_differ (map (λ (cable : NamedCable). cable.name) c.cables) ≡ true
  pub sinks_differ : names_differ (map (λ (sink : NamedSink). sink.name) c.sinks) ≡ true
  pub events_differ : ids_differ c.events ≡ true
  pub events_fit : list_all (event_fits n) c.events ≡ true
  pub names_known : list_all (λ (e : ScenarioEvent). names_are_known c.cables c.sinks e.happening) c.events ≡ true
  pub budget_fits : allows quantity.Budget c.budget_mw ≡ true
  pub funded : floors_mw c.settings ≤ least_budget c.budget_mw c.events
  pub end_fits : allows quantity.Time c.end_us ≡ true
