use Rattle.pd_save.specs.SchemaText.{kind_case}
use Rattle.pd_save.proofs.Joined.{joined_six}
use Rattle.pd_save.proofs.schema.push_kind_case.Goals as goal

pub returns : goal.returns
unfolding kind_case
returns c =
    joined_six _ _ _ _ _ _ _ _ _ _ _ _ _ c.in_ok-extend_from_slice.ensures.items c.in_ok-push_condition.ensures
    c.in_ok-push_quoted.ensures c.in_ok-extend_from_slice-2.ensures.items c.in_ok-push_reference.ensures
    c.in_ok-extend_from_slice-3.ensures.items
