use Rattle.pd_save.specs.SchemaForms.{list_members}
use Rattle.pd_save.proofs.Joined.{joined_five}
use Rattle.pd_save.proofs.schema_forms.push_list.Goals as goal

pub returns : goal.returns
unfolding list_members
returns c =
    joined_five _ _ _ _ _ _ _ _ _ _ _ c.in_ok-extend_from_slice.ensures.items c.in_ok-push_count.ensures
    c.in_ok-extend_from_slice-2.ensures.items (rw c.text.ensures at c.in_ok-push_reference.ensures)
    c.in_ok-extend_from_slice-3.ensures.items
