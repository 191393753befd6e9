-- What a scenario file reads as.
use Rattle.std.specs.Prelude.{◌≡◌, ℕ, List, Option, Some, None, Result, Ok, Err, IsUtf8}
use Rattle.toml.specs.Data.{Members}
use Rattle.toml.specs.Parse.{parse_document}
use Rattle.pd_scenario.specs.Scenarios.{ScenarioData}
use Rattle.pd_scenario_tables.specs.declared.fault.ScenarioFault.{ScenarioFault}
use Rattle.pd_scenario_tables.specs.declared.fault.ScenarioFault.TheVariants.{Toml, Memory}
use Rattle.pd_scenario_tables.specs.Ports.{counted}
use Rattle.pd_scenario_text.specs.FileTables.{tables_of, scenario_of}
use Rattle.pd_scenario_text.specs.Refusals.{refusal}

-- the first refusal that applies, or the scenario
abbrev pub answered : Option ScenarioFault → ScenarioData → Result ScenarioData ScenarioFault
answered None c = Ok c
answered (Some fault) c = Err fault

abbrev pub reading : ℕ → Members → Result ScenarioData ScenarioFault
reading ports t = answered (refusal ports (tables_of t)) (scenario_of (tables_of t))

-- that answer, or want of memory in its place
abbrev pub Answers : Result ScenarioData ScenarioFault → Result ScenarioData ScenarioFault → Type 0
Answers (Err Memory) expected = Unit {0}
Answers answer expected = expected ≡ answer

-- the bytes are the TOML text of a table
pub record IsTextOf (text : List ℕ) (t : Members) : Type 0 where
  pub utf8 : IsUtf8 text
  pub parsed : parse_document text ≡ Some t

-- What a text reads as for so many ports: what its table does; no TOML where it is the text of none; and want of memory
-- may stand in the place of any answer.
abbrev pub Reads : ℕ → List ℕ → Result ScenarioData ScenarioFault → Type 0
Reads ports text (Err Memory) = Unit {0}
Reads ports text (Err Toml) = (t : Members) → IsTextOf text t → ⊥
Reads ports text answer = (t : Members) × IsTextOf text t × (reading ports t ≡ answer)

-- how many ports a text has, in the same way
abbrev pub Counts : List ℕ → Result ℕ ScenarioFault → Type 0
Counts text (Err Memory) = Unit {0}
Counts text (Err Toml) = (t : Members) → IsTextOf text t → ⊥
Counts text answer = (t : Members) × IsTextOf text t × (counted t ≡ answer)
