-- Each number that is shown has a sentence.
use Rattle.std.specs.Prelude.{◌≡◌, ℕ, List, Some}
use Rattle.pd_scenario_tables.specs.Numbers as scenario
use Rattle.pd_scenario_tables.specs.declared.fault.ScenarioFault.{ScenarioFault}
use Rattle.pd_edit_lines.specs.Numbers as edit
use Rattle.pd_edit_lines.specs.declared.fault.EditFault.{EditFault}
use Rattle.pd_device.specs.Numbers as session
use Rattle.pd_device.specs.declared.fault.BenchFault.{BenchFault}
use Rattle.pd_hints.specs.Reasons.{reason_of}

-- a number has a sentence
abbrev pub HasReason : ℕ → Type 0
HasReason number = (sentence : List ℕ) × (reason_of number ≡ Some sentence)

abbrev pub EachHasAReason : Type 0
EachHasAReason =
    ((fault : ScenarioFault) → HasReason (scenario.number_of fault)) × ((fault : EditFault) → HasReason (edit.number_of fault))
    × ((fault : BenchFault) → HasReason (session.number_of fault))
