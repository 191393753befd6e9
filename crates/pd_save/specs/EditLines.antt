-- A scenario as the lines of an edit script that would make it so: docs/FORMATS.md, "Edit script".
use Rattle.std.specs.Prelude.{◌≡◌, ℕ, ◌+◌, ◌<◌, ◌≤◌, ◌⊎◌, Bool, true, false, List, [], ◌∷◌, ◌++◌, codes}
use Rattle.std.specs.List.{flat_map}
use Rattle.std.specs.List.Sorted.{IsPermutation}
use Rattle.pd_setup.specs.Settings.{SettingsData}
use Rattle.pd_scenario.specs.Scenarios.{ScenarioData}
use Rattle.pd_scenario.specs.declared.named.NamedCable.{NamedCable}
use Rattle.pd_scenario.specs.declared.named.NamedSink.{NamedSink}
use Rattle.pd_scenario.specs.declared.event.ScenarioEvent.{ScenarioEvent}
use Rattle.pd_save.specs.Words.{plug_word, mode_word, rating_number}
use Rattle.pd_save.specs.EditWords.{next_word, next_number, supply_words, revision_words, happening_words}

-- budget MW, and end AT
unfoldable pub top_lines : ScenarioData → List ℕ
top_lines c = codes "end" ++ (next_number c.end_us ++ (codes "\nbudget" ++ (next_number c.budget_mw ++ codes "\n")))

-- floor PORT MW, and caps PORT MV MA ..
unfoldable pub port_lines : ℕ → SettingsData → List ℕ
port_lines port p =
    codes "floor" ++ (next_number port ++ (next_number p.floor_mw ++ (codes "\ncaps" ++ (next_number port
    ++ (flat_map supply_words p.supplies ++ codes "\n")))))

-- the end of the line, with a word before it where the port's power is unconstrained
abbrev pub power_end : Bool → List ℕ
power_end true = codes " unconstrained\n"
power_end false = codes "\n"

-- identity_tries TRIES, and that end
unfoldable pub fixed_words : SettingsData → List ℕ
fixed_words p = codes " identity_tries" ++ (next_number p.identity_tries ++ power_end p.unconstrained)

-- # port PORT identity_tries TRIES, and unconstrained behind it: a comment, since no line of an edit script sets these
unfoldable pub port_comment : ℕ → SettingsData → List ℕ
port_comment port p = codes "# port" ++ (next_number port ++ fixed_words p)

-- the ports, the first of which has this number
abbrev pub ports_text : ℕ → List SettingsData → List ℕ
ports_text first [] = []
ports_text first (p ∷ ports) = port_lines first p ++ (port_comment first p ++ ports_text (first + 1) ports)

-- cable NAME PLUG RATING
unfoldable pub cable_line : NamedCable → List ℕ
cable_line c =
    codes "cable" ++ (next_word c.name ++ (next_word (plug_word c.cable.plug) ++ (next_number (rating_number c.cable.rating)
    ++ codes "\n")))

-- sink NAME MAX DEMAND MODE, and rev2 behind it
unfoldable pub sink_line : NamedSink → List ℕ
sink_line s =
    codes "sink" ++ (next_word s.name ++ (next_number s.sink.max_mv ++ (next_number s.sink.demand_mw ++ (next_word (mode_word s.sink.mode)
    ++ (revision_words s.sink.revision ++ codes "\n")))))

-- insert ID AT .., whatever the event is
unfoldable pub event_line : ScenarioEvent → List ℕ
event_line e = codes "insert" ++ (next_number e.id ++ (next_number e.at ++ (happening_words e.happening ++ codes "\n")))

-- the first event comes before the second: by time, and at one time by id
abbrev pub IsBefore : ScenarioEvent → ScenarioEvent → Type 0
IsBefore e f = (e.at < f.at) ⊎ ((e.at ≡ f.at) × (e.id ≤ f.id))

-- each event of a list comes before the next one
abbrev pub IsInOrder : List ScenarioEvent → Type 0
IsInOrder [] = Unit {0}
IsInOrder (e ∷ []) = Unit {0}
IsInOrder (e ∷ (f ∷ events)) = IsBefore e f × IsInOrder (f ∷ events)

-- the scenario with its events in this order
unfoldable pub list_text : ScenarioData → List ScenarioEvent → List ℕ
list_text c order =
    top_lines c ++ (ports_text 1 c.settings ++ (flat_map cable_line c.cables ++ (flat_map sink_line c.sinks ++ flat_map event_line order)))

-- the text lists the scenario, its events in the order of time
abbrev pub Lists : ScenarioData → List ℕ → Type 0
Lists c text = (order : List ScenarioEvent) × IsPermutation c.events order × IsInOrder order × (text ≡ list_text c order)
