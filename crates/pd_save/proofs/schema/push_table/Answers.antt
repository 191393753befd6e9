use Rattle.pd_save.specs.SchemaText.{table_members}
use Rattle.pd_save.proofs.Joined.{joined_five}
use Rattle.pd_save.proofs.schema.push_table.Goals as goal

pub returns : goal.returns
unfolding table_members
returns c =
    joined_five _ _ _ _ _ _ _ _ _ _ _ c.in_ok-extend_from_slice.ensures.items c.in_ok-push_needed.ensures
    c.in_ok-extend_from_slice-2.ensures.items c.in_ok-push_properties.ensures c.in_ok-extend_from_slice-3.ensures.items
