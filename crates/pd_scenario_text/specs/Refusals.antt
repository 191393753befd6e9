-- The refusals of a whole file.
use Rattle.std.specs.Prelude.{ℕ, Bool, false, not, ◌||◌, ◌==◌, nat_lt, List, [], ◌∷◌, length, map, find, Option}
use Rattle.std.specs.List.{list_any, list_all}
use Rattle.pd_setup.specs.Settings.{SettingsData}
use Rattle.pd_scenario.specs.Limits.{most_names, most_events}
use Rattle.pd_scenario.specs.Scenarios.{ScenarioData, names_differ, ids_differ, names_are_known, is_funded}
use Rattle.pd_scenario.specs.declared.named.NamedCable.{NamedCable}
use Rattle.pd_scenario.specs.declared.named.NamedSink.{NamedSink}
use Rattle.pd_scenario.specs.declared.event.ScenarioEvent.{ScenarioEvent}
use Rattle.pd_scenario_tables.specs.declared.schema.TableKind.TheVariants.{Top, Port, Cable, Sink}
use Rattle.pd_scenario_tables.specs.declared.fault.ScenarioFault.{ScenarioFault}
use Rattle.pd_scenario_tables.specs.declared.fault.ScenarioFault.TheVariants.{Toml, UnknownKey, WrongType, MissingKey, Range, Name}
use Rattle.pd_scenario_tables.specs.declared.fault.ScenarioFault.TheVariants.{Duplicate, Supplies, Floors, UnknownName, Limit, Memory}
use Rattle.pd_scenario_tables.specs.Tables.{fails, event_fails}
use Rattle.pd_scenario_text.specs.FileTables.{Tables, scenario_of}

-- the refusal applies to some table of a file for so many ports
unfoldable pub fails_somewhere : ScenarioFault → ℕ → Tables → Bool
fails_somewhere fault ports d =
    fails fault d.version ports Top d.top
    || (list_any (fails fault d.version ports Port) d.ports
    || (list_any (fails fault d.version ports Cable) d.cables
    || (list_any (fails fault d.version ports Sink) d.sinks
    || list_any (event_fails fault d.version ports) d.events)))

-- two cables or two sinks have one name, or two events one id
unfoldable pub has_duplicate : ScenarioData → Bool
has_duplicate c =
    not (names_differ (map (λ (cable : NamedCable). cable.name) c.cables))
    || (not (names_differ (map (λ (sink : NamedSink). sink.name) c.sinks)) || not (ids_differ c.events))

-- the floors add to more than the least of the budget and its changes
unfoldable pub exceeds_budget : ScenarioData → Bool
exceeds_budget c = not (is_funded c)

-- an event names a cable or a sink that isn't there
unfoldable pub has_unknown_name : ScenarioData → Bool
has_unknown_name c = not (list_all (λ (e : ScenarioEvent). names_are_known c.cables c.sinks e.happening) c.events)

-- there are other than so many ports, or more events, cables or sinks than may be
unfoldable pub exceed_limits : ℕ → List SettingsData → List NamedCable → List NamedSink → List ScenarioEvent → Bool
exceed_limits ports settings cables sinks events =
    not (length settings == ports)
    || (nat_lt most_events (length events) || (nat_lt most_names (length cables) || nat_lt most_names (length sinks)))

abbrev pub exceeds_limit : ℕ → ScenarioData → Bool
exceeds_limit ports c = exceed_limits ports c.settings c.cables c.sinks c.events

-- the refusal applies to a file for so many ports
abbrev pub applies : ScenarioFault → ℕ → Tables → Bool
applies Toml ports d = false
applies UnknownKey ports d = fails_somewhere UnknownKey ports d
applies WrongType ports d = fails_somewhere WrongType ports d
applies MissingKey ports d = fails_somewhere MissingKey ports d
applies Range ports d = fails_somewhere Range ports d
applies Name ports d = fails_somewhere Name ports d
applies Duplicate ports d = has_duplicate (scenario_of d)
applies Supplies ports d = fails_somewhere Supplies ports d
applies Floors ports d = exceeds_budget (scenario_of d)
applies UnknownName ports d = has_unknown_name (scenario_of d)
applies Limit ports d = exceeds_limit ports (scenario_of d)
applies Memory ports d = false

-- what a file of tables may be refused for, the least number first
abbrev pub refusals : List ScenarioFault
refusals =
    UnknownKey ∷ WrongType ∷ MissingKey ∷ Range ∷ Name ∷ Duplicate ∷ Supplies ∷ Floors ∷ UnknownName ∷ Limit ∷ []

-- those of them that are of single tables, up to the names
abbrev pub table_refusals : List ScenarioFault
table_refusals = UnknownKey ∷ WrongType ∷ MissingKey ∷ Range ∷ Name ∷ []

-- the first that applies
abbrev pub refusal : ℕ → Tables → Option ScenarioFault
refusal ports d = find (λ fault. applies fault ports d) refusals
