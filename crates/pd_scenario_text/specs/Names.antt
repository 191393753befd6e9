-- Names and ids that differ, and names that are there, as the code looks for them.
use Rattle.std.specs.Prelude.{◌≡◌, ℕ, Bool, true, ◌&&◌, List, map, Option, Some, None, bytes_eq, if◌then◌else◌}
use Rattle.std.specs.Borrow.{Bor}
use Rattle.std.specs.List.{list_any, list_all}
use Rattle.std.specs.BTreeSet.{BTreeSet}
use Rattle.pd_scenario.specs.Scenarios.{names_differ, ids_differ, names_are_known}
use Rattle.pd_scenario.specs.declared.named.NamedCable.{NamedCable}
use Rattle.pd_scenario.specs.declared.named.NamedSink.{NamedSink}
use Rattle.pd_scenario.specs.Events.{ScenarioEventKind}
use Rattle.pd_setup.specs.declared.event.EventKind.TheVariants.{Attach}
use Rattle.pd_scenario.specs.declared.event.ScenarioHappening.{ScenarioHappening}
use Rattle.pd_scenario.specs.declared.event.ScenarioHappening.TheVariants.{OnPort, Budget}
use Rattle.pd_scenario.specs.declared.event.ScenarioEvent.{ScenarioEvent}

abbrev pub texts : List (Bor (List ℕ)) → List (List ℕ)
texts names = map (λ (name : Bor (List ℕ)). name.now) names

abbrev pub cable_names : List NamedCable → List (List ℕ)
cable_names cables = map (λ (cable : NamedCable). cable.name) cables

abbrev pub sink_names : List NamedSink → List (List ℕ)
sink_names sinks = map (λ (sink : NamedSink). sink.name) sinks

-- a set has a name
abbrev pub has_text : BTreeSet (Bor (List ℕ)) → List ℕ → Bool
has_text set name = list_any (λ (other : Bor (List ℕ)). bytes_eq name other.now) set.keys

-- a set has exactly these names
abbrev pub Has : List (List ℕ) → BTreeSet (Bor (List ℕ)) → Type 0
Has names set = (name : List ℕ) → has_text set name ≡ list_any (λ other. bytes_eq other name) names

abbrev pub kind_is_in : BTreeSet (Bor (List ℕ)) → BTreeSet (Bor (List ℕ)) → ScenarioEventKind → Bool
kind_is_in cables sinks (Attach cable sink) = has_text cables cable && has_text sinks sink
kind_is_in cables sinks _ = true

abbrev pub is_in : BTreeSet (Bor (List ℕ)) → BTreeSet (Bor (List ℕ)) → ScenarioHappening → Bool
is_in cables sinks (OnPort port kind) = kind_is_in cables sinks kind
is_in cables sinks (Budget mw) = true

-- whether all names are there, or nothing where two names or two ids are the same
abbrev pub name_check : List NamedCable → List NamedSink → List ScenarioEvent → Option Bool
name_check cables sinks events =
    if names_differ (cable_names cables) && (names_differ (sink_names sinks) && ids_differ events)
    then Some (list_all (λ (e : ScenarioEvent). names_are_known cables sinks e.happening) events)
    else None
