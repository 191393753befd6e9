-- An edit that is refused is answered with the refusal of its first reason.
use Rattle.std.proofs.Common.{◌≡◌, ℕ, Bool, true, List, [], ◌∷◌, ◌++◌, length, refl, sym, ◌∙◌, cond, arith, Option, Some, None}
use Rattle.std.specs.Prelude.{nat_lt, find, Err}
use Rattle.std.specs.List.{flat_map}
use Rattle.std.proofs.lemmas.Bool.{lt-ltb}
use Rattle.pd_scenario.specs.Scenarios.{ScenarioData}
use Rattle.pd_edit_lines.specs.declared.fault.EditFault.{EditFault}
use Rattle.pd_edit_lines.specs.declared.edit.Edit.{Edit}
use Rattle.pd_edit.specs.Edits.{outcome}
use Rattle.pd_edit.specs.Refusals.{refuses, refusals, answered, edited}
use Rattle.pd_explain.specs.declared.place.Place.{Place}
use Rattle.pd_explain.specs.declared.place.Reason.{Reason}
use Rattle.pd_explain.specs.Places.{causes, reasons_at, reasons}
use Rattle.pd_explain.specs.Laws.{first_fault}
use Rattle.pd_explain.proofs.WhereBroken.{causes_some}

first_at : (fault : EditFault) (b : Bool) (places : List Place) (more : List Reason) (rest : Option EditFault)
    → b ≡ nat_lt 0 (length places) → first_fault more ≡ rest
    → first_fault (reasons_at fault places ++ more) ≡ cond b (Some fault) rest
first_at fault b [] more rest some first = rw some first
first_at fault b (place ∷ places) more rest some first =
    let is : b ≡ true = some ∙ lt-ltb 0 (length (place ∷ places)) (omega arith) in rw is refl

first_of_all : (n : ℕ) (c : ScenarioData) (edit : Edit) (faults : List EditFault)
    → first_fault (flat_map (λ fault. reasons_at fault (causes fault n c edit)) faults) ≡ find (λ fault. refuses fault n c edit) faults
first_of_all n c edit [] = refl
first_of_all n c edit (fault ∷ faults) =
    first_at fault (refuses fault n c edit) (causes fault n c edit)
    (flat_map (λ f. reasons_at f (causes f n c edit)) faults) (find (λ f. refuses f n c edit) faults)
    (causes_some fault n c edit) (first_of_all n c edit faults)

answered_with : (found : Option EditFault) (c : ScenarioData) (fault : EditFault) → answered found c ≡ Err fault → found ≡ Some fault
answered_with None c fault is = absurd (cc)
answered_with (Some first) c fault is = cc

edited_as : (n : ℕ) (c : ScenarioData) (edit : Edit)
    → edited n c edit ≡ answered (find (λ fault. refuses fault n c edit) refusals) (outcome c edit)
unfolding edited
edited_as n c edit = refl

pub answered_with_the_first : (n : ℕ) (c : ScenarioData) (edit : Edit) (fault : EditFault)
    → edited n c edit ≡ Err fault → first_fault (reasons n c edit) ≡ Some fault
answered_with_the_first n c edit fault refused =
    first_of_all n c edit refusals
    ∙ answered_with (find (λ f. refuses f n c edit) refusals) (outcome c edit) fault (sym (edited_as n c edit) ∙ refused)
