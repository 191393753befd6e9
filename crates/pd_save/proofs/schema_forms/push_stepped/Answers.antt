use Rattle.std.proofs.lemmas.Result.{on_ok_weaker}
use Rattle.pd_save.specs.SchemaForms.{stepped_members}
use Rattle.pd_save.proofs.Joined.{joined_three}
use Rattle.pd_save.proofs.schema_forms.push_stepped.Goals as goal

pub returns : goal.returns
unfolding stepped_members
returns c =
    on_ok_weaker c.push_number.result (λ h. joined_three _ _ _ _ _ _ _ c.in_ok-push_whole.ensures
    c.in_ok-extend_from_slice.ensures.items h) c.push_number.ensures
