-- The tables of a scenario file as they are written. A key stands in the order of the format's table (docs/FORMATS.md, "Scenario
-- file"), and only where its value is another than what stands for an absent key.
use Rattle.std.specs.Prelude.{ℕ, Bool, true, false, ◌==◌, List, [], ◌∷◌, ◌++◌, codes, decimal, if◌then◌else◌}
use Rattle.std.specs.List.{flat_map}
use Rattle.pd_objects.specs.Supply.{SupplyData}
use Rattle.pd_setup.specs.Settings.{SettingsData}
use Rattle.pd_setup.specs.declared.event.EventKind.TheVariants.{Attach, Demand, Damage}
use Rattle.pd_setup.specs.declared.sink.SinkMode.{SinkMode}
use Rattle.pd_setup.specs.declared.sink.SinkMode.TheVariants.{PowerDelivery}
use Rattle.pd_setup.specs.declared.sink.SinkRevision.{SinkRevision}
use Rattle.pd_setup.specs.declared.sink.SinkRevision.TheVariants.{Revision2, Revision3}
use Rattle.pd_scenario.specs.Events.{ScenarioEventKind}
use Rattle.pd_scenario.specs.declared.named.NamedCable.{NamedCable}
use Rattle.pd_scenario.specs.declared.named.NamedSink.{NamedSink}
use Rattle.pd_scenario.specs.declared.event.ScenarioHappening.{ScenarioHappening}
use Rattle.pd_scenario.specs.declared.event.ScenarioHappening.TheVariants.{OnPort, Budget}
use Rattle.pd_scenario.specs.declared.event.ScenarioEvent.{ScenarioEvent}
use Rattle.pd_scenario_tables.specs.declared.schema.Key.TheVariants as key
use Rattle.pd_scenario_tables.specs.Schema.{text_of}
use Rattle.pd_save.specs.Words.{kind_word, plug_word, mode_word, rating_number, revision_number}
use Rattle.pd_save.specs.Lines.{table_head, number_line, word_line}

-- ---- [[port]]

-- a supply: its voltage in mV and its current in mA
unfoldable pub supply_text : SupplyData → List ℕ
supply_text s = codes "[" ++ (decimal s.mv ++ (codes ", " ++ (decimal s.ma ++ codes "]")))

unfoldable pub next_supply : SupplyData → List ℕ
next_supply s = codes ", " ++ supply_text s

abbrev pub supplies_text : List SupplyData → List ℕ
supplies_text [] = []
supplies_text (first ∷ others) = supply_text first ++ flat_map next_supply others

unfoldable pub supplies_line : List SupplyData → List ℕ
supplies_line supplies = text_of key.Supplies ++ (codes " = [" ++ (supplies_text supplies ++ codes "]\n"))

-- 3 tries stand for an absent key
unfoldable pub tries_line : ℕ → List ℕ
tries_line tries = if tries == 3 then [] else number_line key.IdentityTries tries

abbrev pub unconstrained_line : Bool → List ℕ
unconstrained_line true = text_of key.Unconstrained ++ codes " = true\n"
unconstrained_line false = []

unfoldable pub port_table : SettingsData → List ℕ
port_table p =
    table_head key.Port ++ (number_line key.Floor p.floor_mw ++ (supplies_line p.supplies ++ (tries_line p.identity_tries
    ++ unconstrained_line p.unconstrained)))

-- ---- [[cable]]

unfoldable pub cable_table : NamedCable → List ℕ
cable_table c =
    table_head key.Cable ++ (word_line key.Name c.name ++ (word_line key.Plug (plug_word c.cable.plug)
    ++ number_line key.Rating (rating_number c.cable.rating)))

-- ---- [[sink]]

abbrev pub mode_line : SinkMode → List ℕ
mode_line PowerDelivery = []
mode_line mode = word_line key.Mode (mode_word mode)

abbrev pub revision_line : SinkRevision → List ℕ
revision_line Revision2 = number_line key.Revision (revision_number Revision2)
revision_line Revision3 = []

unfoldable pub sink_table : NamedSink → List ℕ
sink_table s =
    table_head key.Sink ++ (word_line key.Name s.name ++ (number_line key.Max s.sink.max_mv ++ (number_line key.Demand s.sink.demand_mw
    ++ (mode_line s.sink.mode ++ revision_line s.sink.revision))))

-- ---- [[event]]

-- what a kind carries
abbrev pub kind_lines : ScenarioEventKind → List ℕ
kind_lines (Attach cable sink) = word_line key.Cable cable ++ word_line key.Sink sink
kind_lines (Demand mw) = number_line key.Mw mw
kind_lines (Damage harm) = number_line key.Place harm.place ++ number_line key.Mask harm.mask
kind_lines _ = []

abbrev pub happening_lines : ScenarioHappening → List ℕ
happening_lines (OnPort port kind) = number_line key.Port port ++ (word_line key.Kind (kind_word kind) ++ kind_lines kind)
happening_lines (Budget mw) = word_line key.Kind (codes "budget") ++ number_line key.Mw mw

unfoldable pub event_table : ScenarioEvent → List ℕ
event_table e = table_head key.Event ++ (number_line key.Id e.id ++ (number_line key.At e.at ++ happening_lines e.happening))
