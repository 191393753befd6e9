-- What is proved of the definitions alone.
use Rattle.std.specs.Prelude.{◌≡◌, ◌⊎◌, ◌↔◌, ℕ, ◌<◌, ◌≤◌, true, false, List, Result, Ok, Err}
use Rattle.toml.specs.Data.{Members}
use Rattle.pd_scenario.specs.Scenarios.{ScenarioData, IsValid}
use Rattle.pd_scenario_tables.specs.declared.fault.ScenarioFault.{ScenarioFault}
use Rattle.pd_scenario_tables.specs.declared.fault.ScenarioFault.TheVariants.{Memory}
use Rattle.pd_scenario_tables.specs.Numbers.{number_of}
use Rattle.pd_scenario_text.specs.FileTables.{Tables, tables_of, scenario_of}
use Rattle.pd_scenario_text.specs.Refusals.{applies}
use Rattle.pd_scenario_text.specs.Reading.{reading, Reads, Counts}

-- a refusal applies to a file for so many ports, and none of a lesser number does
pub record IsLeast (fault : ScenarioFault) (ports : ℕ) (d : Tables) : Type 0 where
  pub holds : applies fault ports d ≡ true
  pub lesser : (other : ScenarioFault) → number_of other < number_of fault → applies other ports d ≡ false

-- a refusal is answered exactly where it applies and none of a lesser number does
abbrev pub LeastRefusal : Type 0
LeastRefusal = (ports : ℕ) (t : Members) (fault : ScenarioFault) → (reading ports t ≡ Err fault) ↔ IsLeast fault ports (tables_of t)

-- a file is accepted exactly where no refusal applies, and then as what its tables say
abbrev pub AcceptedExactly : Type 0
AcceptedExactly =
    (ports : ℕ) (t : Members) (c : ScenarioData)
    → (reading ports t ≡ Ok c) ↔ ((scenario_of (tables_of t) ≡ c) × ((fault : ScenarioFault) → applies fault ports (tables_of t) ≡ false))

-- what is accepted is a valid scenario
abbrev pub AcceptedIsValid : Type 0
AcceptedIsValid =
    (ports : ℕ) (t : Members) (c : ScenarioData) → 1 ≤ ports → ports ≤ 8 → reading ports t ≡ Ok c → IsValid ports c

-- two answers to a text are the same, but where memory was wanting
abbrev pub OneAnswer : Type 0
OneAnswer =
    (ports : ℕ) (text : List ℕ) (a b : Result ScenarioData ScenarioFault) → Reads ports text a → Reads ports text b
    → (a ≡ b) ⊎ ((a ≡ Err Memory) ⊎ (b ≡ Err Memory))

abbrev pub OneCount : Type 0
OneCount =
    (text : List ℕ) (a b : Result ℕ ScenarioFault) → Counts text a → Counts text b
    → (a ≡ b) ⊎ ((a ≡ Err Memory) ⊎ (b ≡ Err Memory))

-- no two refusals have one number
abbrev pub NumbersDiffer : Type 0
NumbersDiffer = (a b : ScenarioFault) → number_of a ≡ number_of b → a ≡ b
