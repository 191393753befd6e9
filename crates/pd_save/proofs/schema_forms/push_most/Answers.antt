use Rattle.std.proofs.lemmas.Result.{on_ok_weaker}
use Rattle.pd_save.specs.SchemaForms.{most_members}
use Rattle.pd_save.proofs.Joined.{joined_two}
use Rattle.pd_save.proofs.schema_forms.push_most.Goals as goal

pub returns : goal.returns
unfolding most_members
returns c =
    on_ok_weaker c.push_number.result (λ h. joined_two _ _ _ _ _ c.in_ok-extend_from_slice.ensures.items (rw c.most_of.ensures
    at h))
    c.push_number.ensures
