-- What is proved of the definitions alone: docs/FORMATS.md, "Edit script", on the least number.
use Rattle.std.specs.Prelude.{◌≡◌, ℕ, ◌<◌, true, false, Err}
use Rattle.pd_scenario.specs.Scenarios.{ScenarioData}
use Rattle.pd_edit_lines.specs.declared.fault.EditFault.{EditFault}
use Rattle.pd_edit_lines.specs.declared.edit.Edit.{Edit}
use Rattle.pd_edit_lines.specs.Numbers.{number_of}
use Rattle.pd_edit.specs.Refusals.{refuses, edited}

-- a refusal of an edit applies to it, and none of a lesser number does
abbrev pub LeastRefusal : Type 0
LeastRefusal =
    (n : ℕ) (c : ScenarioData) (edit : Edit) (fault : EditFault) → edited n c edit ≡ Err fault
    → (refuses fault n c edit ≡ true) × ((other : EditFault) → number_of other < number_of fault → refuses other n c edit ≡ false)
