-- What a text is: a scenario of so many ports, or refused.
use Rattle.std.specs.Prelude.{◌≡◌, ℕ, ◌⊎◌, List, Result, Ok, Err}
use Rattle.pd_scenario.specs.Scenarios.{ScenarioData}
use Rattle.pd_scenario_tables.specs.declared.fault.ScenarioFault.{ScenarioFault}
use Rattle.pd_scenario_tables.specs.Numbers.{number_of}
use Rattle.pd_scenario_text.specs.Reading.{IsTextOf, Counts, Reads}
use Rattle.pd_scenario_text.specs.File.{members_of}
use Rattle.pd_scenario_text.specs.declared.file.ScenarioFile.{ScenarioFile}

-- it is so for each text of a file
abbrev pub ForTexts : ScenarioFile → (List ℕ → Type 0) → Type 0
ForTexts file P = (text : List ℕ) → IsTextOf text (members_of file) → P text

-- the text is a scenario of so many ports
pub record IsScenarioText (text : List ℕ) (n : ℕ) (s : ScenarioData) : Type 0 where
  pub counts : Counts text (Ok n)
  pub reads : Reads n text (Ok s)

-- the text has no scenario: its ports can't be counted, or its scenario is refused
abbrev pub IsRefused : List ℕ → ScenarioFault → Type 0
IsRefused text fault = Counts text (Err fault) ⊎ ((n : ℕ) × Counts text (Ok n) × Reads n text (Err fault))

-- a text has no scenario, for a refusal of this number
abbrev pub IsRefusedBy : List ℕ → ℕ → Type 0
IsRefusedBy text number = (fault : ScenarioFault) × IsRefused text fault × (number ≡ number_of fault)

-- a text is a scenario, or it is refused
abbrev pub ChecksText : Result Unit ScenarioFault → List ℕ → Type 0
ChecksText (Ok _) text = (n : ℕ) × (s : ScenarioData) × IsScenarioText text n s
ChecksText (Err fault) text = IsRefused text fault
