use Rattle.std.proofs.lemmas.Result.{on_ok_weaker}
use Rattle.pd_save.specs.SchemaForms.{supplies_members}
use Rattle.pd_save.proofs.Joined.{joined_six}
use Rattle.pd_save.proofs.schema_forms.push_supplies.Goals as goal

pub returns : goal.returns
unfolding supplies_members
returns c =
    on_ok_weaker c.push_other_pair.result (λ h. joined_six _ _ _ _ _ _ _ _ _ _ _ _ _ c.in_ok-extend_from_slice.ensures.items
    c.in_ok-push_number.ensures c.in_ok-extend_from_slice-2.ensures.items c.in_ok-push_first_pair.ensures
    c.in_ok-extend_from_slice-3.ensures.items h) c.push_other_pair.ensures
