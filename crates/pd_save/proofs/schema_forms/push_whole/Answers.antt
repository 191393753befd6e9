use Rattle.std.proofs.lemmas.Result.{on_ok_weaker}
use Rattle.pd_save.specs.SchemaForms.{whole_members}
use Rattle.pd_save.proofs.Joined.{joined_four}
use Rattle.pd_save.proofs.schema_forms.push_whole.Goals as goal

pub returns : goal.returns
unfolding whole_members
returns c =
    on_ok_weaker c.push_number-2.result (λ h. joined_four _ _ _ _ _ _ _ _ _ c.in_ok-extend_from_slice.ensures.items
    c.in_ok-push_number.ensures c.in_ok-extend_from_slice-2.ensures.items h) c.push_number-2.ensures
