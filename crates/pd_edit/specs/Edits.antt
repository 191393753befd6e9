-- What a scenario is after an edit: this product's own, the lines and kinds of docs/FORMATS.md, "Edit script".
use Rattle.std.specs.Prelude.{◌≡◌, ℕ, ◌≤◌, ◌+◌, Bool, true, not, ◌==◌, List, [], ◌∷◌, ◌++◌, filter, map, length, slice_get, option_map}
use Rattle.std.specs.Prelude.{Some, unwrap_or, bytes_eq, is_some, if◌then◌else◌}
use Rattle.pd_objects.specs.Supply.{SupplyData}
use Rattle.pd_identity.specs.declared.CablePlug.{CablePlug}
use Rattle.pd_identity.specs.declared.Rating.TheVariants.{ThreeAmperes}
use Rattle.pd_setup.specs.declared.sink.SinkMode.{SinkMode}
use Rattle.pd_setup.specs.declared.sink.SinkRevision.{SinkRevision}
use Rattle.pd_setup.specs.Settings.{SettingsData, AreRising}
use Rattle.pd_scenario.specs.declared.named.NamedCable.{NamedCable}
use Rattle.pd_scenario.specs.declared.named.NamedSink.{NamedSink}
use Rattle.pd_scenario.specs.declared.event.ScenarioEvent.{ScenarioEvent}
use Rattle.pd_scenario.specs.Events.{ScenarioEventKind}
use Rattle.pd_packet.specs.Damage.{DamageData}
use Rattle.pd_setup.specs.Events.{by_kind}
use Rattle.pd_setup.specs.declared.event.EventKind.TheVariants.{Attach, Demand, Damage}
use Rattle.pd_scenario.specs.declared.event.ScenarioHappening.{ScenarioHappening}
use Rattle.pd_scenario.specs.declared.event.ScenarioHappening.TheVariants as scenario_happening
use Rattle.pd_scenario.specs.Scenarios.{ScenarioData, cable_named, sink_named}
use Rattle.pd_scenario.specs.Names.{is_name}
use Rattle.pd_scenario.specs.Words.{rating_of}
use Rattle.pd_edit_lines.specs.Kinds.{EditKind}
use Rattle.pd_edit_lines.specs.declared.edit.WrittenDamage.{WrittenDamage}
use Rattle.pd_edit_lines.specs.declared.edit.EditHappening.{EditHappening}
use Rattle.pd_edit_lines.specs.declared.edit.EditHappening.TheVariants as happens
use Rattle.pd_edit_lines.specs.declared.edit.WrittenSupply.{WrittenSupply}
use Rattle.pd_edit_lines.specs.declared.edit.Edit.{Edit}
use Rattle.pd_edit_lines.specs.declared.edit.Edit.TheVariants.{Insert, Remove, Move, Change, Cable, DropCable, Sink, DropSink, Caps, Floor}
use Rattle.pd_edit_lines.specs.declared.edit.Edit.TheVariants.{Budget, End}

-- ---- events: the lines `insert`, `move` and `change`

-- the damage of a line is that of a scenario
abbrev pub damage_of : WrittenDamage → DamageData
damage_of written = record { place = written.place; mask = written.mask }

-- the kind of event of a line is that of a scenario
abbrev pub event_kind_of : EditKind → ScenarioEventKind
event_kind_of kind = by_kind Attach Demand (λ written. Damage (damage_of written)) (λ plain. plain) kind

-- what a line makes happen
abbrev pub event_happening_of : EditHappening → ScenarioHappening
event_happening_of (happens.OnPort port kind) = scenario_happening.OnPort port (event_kind_of kind)
event_happening_of (happens.Budget mw) = scenario_happening.Budget mw

-- the event of an `insert`
abbrev pub inserted_event : ℕ → ℕ → EditHappening → ScenarioEvent
inserted_event id at happening = record { id = id; at = at; happening = event_happening_of happening }

-- an event, at another time where it has the id
abbrev pub moved_event : ℕ → ℕ → ScenarioEvent → ScenarioEvent
moved_event id at e = if e.id == id then record e { at = at } else e

-- the same port with another kind of event; a change of the budget stays as it is
abbrev pub with_kind : ScenarioEventKind → ScenarioHappening → ScenarioHappening
with_kind kind (scenario_happening.OnPort port old) = scenario_happening.OnPort port kind
with_kind kind (scenario_happening.Budget mw) = scenario_happening.Budget mw

-- an event, of another kind where it has the id
abbrev pub changed_event : ℕ → ScenarioEventKind → ScenarioEvent → ScenarioEvent
changed_event id kind e = if e.id == id then record e { happening = with_kind kind e.happening } else e

-- ---- cables and sinks: the lines `cable` and `sink`

-- some cable, or some sink, has the name
abbrev pub has_cable : List NamedCable → List ℕ → Bool
has_cable cables name = is_some (cable_named cables name)

abbrev pub has_sink : List NamedSink → List ℕ → Bool
has_sink sinks name = is_some (sink_named sinks name)

-- the cable, and the sink, of a line; a number that is no rating is refused, and stands for 3 A here
abbrev pub written_cable : List ℕ → CablePlug → ℕ → NamedCable
written_cable name plug rating = record { name = name; cable = record { plug = plug; rating = unwrap_or (rating_of rating) ThreeAmperes } }

abbrev pub written_sink : List ℕ → ℕ → ℕ → SinkMode → SinkRevision → NamedSink
written_sink name max_mv demand_mw mode revision =
    record { name = name; sink = record { max_mv = max_mv; demand_mw = demand_mw; mode = mode; revision = revision } }

-- a new one in place of the one of its name, else behind the others
abbrev pub with_cable : NamedCable → List NamedCable → List NamedCable
with_cable new cables =
    if has_cable cables new.name then map (λ (old : NamedCable). if bytes_eq old.name new.name then new else old) cables
    else cables ++ new ∷ []

abbrev pub with_sink : NamedSink → List NamedSink → List NamedSink
with_sink new sinks =
    if has_sink sinks new.name then map (λ (old : NamedSink). if bytes_eq old.name new.name then new else old) sinks else sinks ++ new ∷ []

-- all but the one of a name
abbrev pub without_cable : List ℕ → List NamedCable → List NamedCable
without_cable name cables = filter (λ (cable : NamedCable). not (bytes_eq cable.name name)) cables

abbrev pub without_sink : List ℕ → List NamedSink → List NamedSink
without_sink name sinks = filter (λ (sink : NamedSink). not (bytes_eq sink.name name)) sinks

-- ---- ports: the lines `caps` and `floor`

-- the settings with those of one port changed; the ports are numbered from a first one
abbrev pub changed_from : ℕ → ℕ → (SettingsData → SettingsData) → List SettingsData → List SettingsData
changed_from first port change [] = []
changed_from first port change (s ∷ settings) = (if first == port then change s else s) ∷ changed_from (first + 1) port change settings

-- the same of all ports, which are numbered from 1
abbrev pub changed_port : ℕ → (SettingsData → SettingsData) → List SettingsData → List SettingsData
changed_port port change settings = changed_from 1 port change settings

-- the supply that is written by a voltage in mV and a current in mA
abbrev pub supply_of : WrittenSupply → SupplyData
supply_of written = record { mv = written.mv; ma = written.ma }

-- what the supplies of each port keep: key `supplies` of docs/FORMATS.md, "Scenario file"
pub record AreSupplies (supplies : List SupplyData) : Type 0 where
  pub some : 1 ≤ length supplies
  pub few : length supplies ≤ 7
  pub first : option_map (λ (supply : SupplyData). supply.mv) (slice_get supplies 0) ≡ Some 5000
  pub rising : AreRising supplies

-- a port with other supplies, and with another floor in mW
abbrev pub with_supplies : List WrittenSupply → SettingsData → SettingsData
with_supplies supplies s = record s { supplies = map supply_of supplies }

abbrev pub with_floor : ℕ → SettingsData → SettingsData
with_floor mw s = record s { floor_mw = mw }

-- ---- the whole

-- the names of what an edit makes new are names
abbrev pub HasNames : Edit → Type 0
HasNames (Cable name plug rating) = is_name name ≡ true
HasNames (Sink name max_mv demand_mw mode revision) = is_name name ≡ true
HasNames _ = Unit {0}

-- the scenario after an edit: what is new stands last
abbrev pub outcome : ScenarioData → Edit → ScenarioData
outcome c (Insert id at happening) = record c { events = c.events ++ inserted_event id at happening ∷ [] }
outcome c (Remove id) = record c { events = filter (λ (e : ScenarioEvent). not (e.id == id)) c.events }
outcome c (Move id at) = record c { events = map (moved_event id at) c.events }
outcome c (Change id kind) = record c { events = map (changed_event id (event_kind_of kind)) c.events }
outcome c (Cable name plug rating) = record c { cables = with_cable (written_cable name plug rating) c.cables }
outcome c (DropCable name) = record c { cables = without_cable name c.cables }
outcome c (Sink name max_mv demand_mw mode revision) =
    record c { sinks = with_sink (written_sink name max_mv demand_mw mode revision) c.sinks }
outcome c (DropSink name) = record c { sinks = without_sink name c.sinks }
outcome c (Caps port supplies) = record c { settings = changed_port port (with_supplies supplies.items) c.settings }
outcome c (Floor port mw) = record c { settings = changed_port port (with_floor mw) c.settings }
outcome c (Budget mw) = record c { budget_mw = mw }
outcome c (End at) = record c { end_us = at }
