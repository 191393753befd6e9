-- None of the refusals applies where none is found.
use Rattle.std.proofs.Common.{◌≡◌, ℕ, Bool, true, false, not, cond, find, refl, Some, None}
use Rattle.std.specs.Prelude.{Option}
use Rattle.pd_scenario.specs.Scenarios.{ScenarioData}
use Rattle.pd_edit_lines.specs.declared.fault.EditFault.{EditFault}
use Rattle.pd_edit_lines.specs.declared.edit.Edit.{Edit}
use Rattle.pd_edit.specs.Refusals.{refuses, refusals, IsAccepted, id_is_free, id_is_known, port_is_known, name_is_known, is_unused}
use Rattle.pd_edit.specs.Refusals.{in_range, supplies_rise, stays_funded, has_room}

passed : (b : Bool) (fault : EditFault) (rest : Option EditFault) → cond (not b) (Some fault) rest ≡ None → (b ≡ true) × (rest ≡ None)
passed true fault rest h = (refl, h)
passed false fault rest h = absurd (cc)

pub accepted : (n : ℕ) (c : ScenarioData) (edit : Edit) → find (λ fault. refuses fault n c edit) refusals ≡ None → IsAccepted n c edit
accepted n c edit h =
    let first = passed (id_is_free c edit) _ _ h in
    let second = passed (id_is_known c edit) _ _ first.1 in
    let third = passed (port_is_known n c edit) _ _ second.1 in
    let fourth = passed (name_is_known c edit) _ _ third.1 in
    let fifth = passed (is_unused c edit) _ _ fourth.1 in
    let sixth = passed (in_range edit) _ _ fifth.1 in
    let seventh = passed (supplies_rise edit) _ _ sixth.1 in
    let eighth = passed (stays_funded c edit) _ _ seventh.1 in
    let ninth = passed (has_room c edit) _ _ eighth.1 in
    record {
      id_free = first.0;
      id_known = second.0;
      port_known = third.0;
      name_known = fourth.0;
      unused = fifth.0;
      in_range = sixth.0;
      supplies = seventh.0;
      funded = eighth.0;
      room = ninth.0;
    }
