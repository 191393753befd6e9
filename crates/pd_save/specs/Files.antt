-- The text of a scenario file for a scenario, and what it reads as.
use Rattle.std.specs.Prelude.{◌≢◌, ℕ, List, ◌++◌, Result, Ok, Err}
use Rattle.std.specs.List.{flat_map}
use Rattle.pd_scenario.specs.Scenarios.{ScenarioData}
use Rattle.pd_scenario_tables.specs.declared.schema.Key.TheVariants as key
use Rattle.pd_scenario_tables.specs.declared.fault.ScenarioFault.{ScenarioFault}
use Rattle.pd_scenario_tables.specs.declared.fault.ScenarioFault.TheVariants.{Memory}
use Rattle.pd_scenario_text.specs.Reading.{Reads}
use Rattle.pd_save.specs.Lines.{number_line}
use Rattle.pd_save.specs.Tables.{port_table, cable_table, sink_table, event_table}

-- version 2, which knows all that a scenario may have
unfoldable pub top_lines : ScenarioData → List ℕ
top_lines c = number_line key.Version 2 ++ (number_line key.End c.end_us ++ number_line key.Budget c.budget_mw)

-- the top, and a table for each port, cable, sink and event, in the scenario's own order
unfoldable pub file_text : ScenarioData → List ℕ
file_text c =
    top_lines c ++ (flat_map port_table c.settings ++ (flat_map cable_table c.cables ++ (flat_map sink_table c.sinks
    ++ flat_map event_table c.events)))

-- the text has another answer than that scenario of n ports, and not for want of memory
abbrev pub ReadsOtherwise : ℕ → List ℕ → ScenarioData → Type 0
ReadsOtherwise n text c =
    (answer : Result ScenarioData ScenarioFault) × Reads n text answer × (answer ≢ Ok c) × (answer ≢ Err Memory)

-- the text reads as a scenario of n ports
abbrev pub IsRead : ℕ → List ℕ → Type 0
IsRead n text = (c : ScenarioData) × Reads n text (Ok c)

-- the text is refused for n ports, and not for want of memory
abbrev pub IsNotRead : ℕ → List ℕ → Type 0
IsNotRead n text = (fault : ScenarioFault) × Reads n text (Err fault) × (fault ≢ Memory)
