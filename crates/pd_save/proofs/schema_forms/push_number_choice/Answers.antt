use Rattle.pd_save.specs.SchemaForms.{number_members}
use Rattle.pd_save.proofs.Joined.{joined_three}
use Rattle.pd_save.proofs.schema_forms.push_number_choice.Goals as goal

pub returns : goal.returns
unfolding number_members
returns c =
    joined_three _ _ _ _ _ _ _ c.in_ok-extend_from_slice.ensures.items c.in_ok-push_decimals.ensures
    c.in_ok-extend_from_slice-2.ensures.items
