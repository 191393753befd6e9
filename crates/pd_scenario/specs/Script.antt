-- The events of a port in the order of their times.
use Rattle.std.specs.Prelude.{◌≡◌, ℕ, ◌+◌, Bool, ◌||◌, ◌&&◌, ◌==◌, nat_lt, List, [], ◌∷◌, ◌++◌, fold, Option, Some, None, option_map}
use Rattle.std.specs.Prelude.{unwrap_or, if◌then◌else◌, Contains}
use Rattle.std.specs.Option.{option_to_list}
use Rattle.std.specs.List.{filter_map}
use Rattle.pd_identity.specs.declared.Cable.{Cable}
use Rattle.pd_identity.specs.declared.CablePlug.TheVariants.{Absent}
use Rattle.pd_identity.specs.declared.Rating.TheVariants.{ThreeAmperes}
use Rattle.pd_setup.specs.Sinks.{SinkData}
use Rattle.pd_setup.specs.declared.sink.SinkMode.TheVariants.{PowerDelivery}
use Rattle.pd_setup.specs.declared.sink.SinkRevision.TheVariants.{Revision3}
use Rattle.pd_setup.specs.Events.{EventData, PortEventKind, by_kind}
use Rattle.pd_setup.specs.declared.event.Happening.{Happening}
use Rattle.pd_setup.specs.declared.event.Happening.TheVariants as happens
use Rattle.pd_scenario.specs.declared.named.NamedCable.{NamedCable}
use Rattle.pd_scenario.specs.declared.named.NamedSink.{NamedSink}
use Rattle.pd_scenario.specs.Events.{ScenarioEventKind}
use Rattle.pd_setup.specs.declared.event.EventKind.TheVariants.{Attach, Demand, Damage}
use Rattle.pd_scenario.specs.declared.event.ScenarioHappening.{ScenarioHappening}
use Rattle.pd_scenario.specs.declared.event.ScenarioHappening.TheVariants.{OnPort, Budget}
use Rattle.pd_scenario.specs.declared.event.ScenarioEvent.{ScenarioEvent}
use Rattle.pd_scenario.specs.Scenarios.{cable_named, sink_named}
use Rattle.pd_scenario.specs.Plan.{number_of}

-- what stands for a name that no cable has, and for one that no sink has; in a valid scenario there is none
abbrev pub no_cable : Cable
no_cable = record { plug = Absent; rating = ThreeAmperes }

abbrev pub no_sink : SinkData
no_sink = record { max_mv = 5000; demand_mw = 50; mode = PowerDelivery; revision = Revision3 }

-- what an event does, with the cable and the sink in place of their names
abbrev pub resolved : List NamedCable → List NamedSink → ScenarioEventKind → PortEventKind
resolved cables sinks kind =
    by_kind (λ cable sink. Attach (unwrap_or (cable_named cables cable) no_cable) (unwrap_or (sink_named sinks sink) no_sink))
    Demand Damage (λ plain. plain) kind

-- what a happening is for a port: nothing where it is on another port
abbrev pub seen_by : List NamedCable → List NamedSink → ℕ → ℕ → ScenarioHappening → Option Happening
seen_by cables sinks port id (OnPort other kind) = if other == port then Some (happens.Port id (resolved cables sinks kind)) else None
seen_by cables sinks port id (Budget mw) = Some happens.Budget

abbrev pub event_for : List NamedCable → List NamedSink → ℕ → ScenarioEvent → Option EventData
event_for cables sinks port e =
    option_map (λ happening. record { at = e.at; happening = happening }) (seen_by cables sinks port e.id e.happening)

-- what the events are for a port, in the order of their making
abbrev pub events_for : List NamedCable → List NamedSink → ℕ → List ScenarioEvent → List EventData
events_for cables sinks port events = filter_map (event_for cables sinks port) events

-- the first event comes before the second, by time and at one time by number
abbrev pub is_before : EventData → EventData → Bool
is_before e f = nat_lt e.at f.at || ((e.at == f.at) && nat_lt (number_of e.happening) (number_of f.happening))

-- the events with one more, behind those that come before it; one of its own time and number it replaces
abbrev pub put : List EventData → EventData → List EventData
put [] e = e ∷ []
put (f ∷ events) e = if is_before f e then f ∷ put events e else if is_before e f then (e ∷ f ∷ events) else (e ∷ events)

-- What the events are for a port, each put in its place. The law `script_is_in_order` says what list that is.
unfoldable pub script : List NamedCable → List NamedSink → List ScenarioEvent → ℕ → List EventData
script cables sinks events port = fold put [] (events_for cables sinks port events)

-- of one time and number there is one event at most, however often it stands there
abbrev pub AreOneEach : List EventData → Type 0
AreOneEach events = (e f : EventData) → Contains events e → Contains events f → e.at ≡ f.at → number_of e.happening ≡ number_of f.happening
    → e ≡ f

-- what an event is for each of some ports, numbered from one on, behind the events that they have already
abbrev pub handed_out : List NamedCable → List NamedSink → ScenarioEvent → ℕ → List (List EventData) → List (List EventData)
handed_out cables sinks e port [] = []
handed_out cables sinks e port (events ∷ more) =
    (events ++ option_to_list (event_for cables sinks port e)) ∷ handed_out cables sinks e (port + 1) more
