use Rattle.pd_save.specs.SchemaForms.{pair_end}
use Rattle.pd_save.proofs.Joined.{joined_three}
use Rattle.pd_save.proofs.schema_forms.push_pair_end.Goals as goal

pub returns : goal.returns
unfolding pair_end
returns c =
    joined_three _ _ _ _ _ _ _ c.in_ok-extend_from_slice.ensures.items c.in_ok-push_range.ensures
    c.in_ok-extend_from_slice-2.ensures.items
