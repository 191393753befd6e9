-- What is proved of the definitions alone.
use Rattle.std.specs.Prelude.{◌≡◌, ℕ, List, Option, Some, Err, option_map, slice_get}
use Rattle.std.specs.List.{list_any}
use Rattle.pd_scenario.specs.Scenarios.{ScenarioData}
use Rattle.pd_edit_lines.specs.declared.fault.EditFault.{EditFault}
use Rattle.pd_edit_lines.specs.declared.edit.Edit.{Edit}
use Rattle.pd_edit.specs.Refusals.{refuses, edited}
use Rattle.pd_explain.specs.declared.place.Reason.{Reason}
use Rattle.pd_explain.specs.Places.{is_broken, places_of, reasons}

-- a refusal applies to an edit exactly where its rule is broken at some place
abbrev pub RefusedWhereBroken : Type 0
RefusedWhereBroken =
    (fault : EditFault) (n : ℕ) (c : ScenarioData) (edit : Edit)
    → refuses fault n c edit ≡ list_any (is_broken n c) (places_of fault c edit)

-- the refusal of the first of some reasons
abbrev pub first_fault : List Reason → Option EditFault
first_fault reasons = option_map (λ (r : Reason). r.fault) (slice_get reasons 0)

-- an edit that is refused is answered with the refusal of its first reason
abbrev pub AnsweredWithTheFirst : Type 0
AnsweredWithTheFirst =
    (n : ℕ) (c : ScenarioData) (edit : Edit) (fault : EditFault)
    → edited n c edit ≡ Err fault → first_fault (reasons n c edit) ≡ Some fault
