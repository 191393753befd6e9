use Rattle.pd_save.specs.SchemaText.{condition}
use Rattle.pd_save.proofs.Joined.{joined_five}
use Rattle.pd_save.proofs.schema.push_condition.Goals as goal

pub returns : goal.returns
unfolding condition
returns c =
    joined_five _ _ _ _ _ _ _ _ _ _ _ c.in_ok-extend_from_slice.ensures.items c.in_ok-push_key.ensures
    c.in_ok-extend_from_slice-2.ensures.items c.in_ok-push_key-2.ensures c.in_ok-extend_from_slice-3.ensures.items
