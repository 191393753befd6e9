use Rattle.pd_save.specs.SchemaText.{tops}
use Rattle.pd_save.proofs.Joined.{joined_six}
use Rattle.pd_save.proofs.schema.push_tops.Goals as goal

pub returns : goal.returns
unfolding tops
returns c =
    joined_six _ _ _ _ _ _ _ _ _ _ _ _ _ c.in_ok-push_top.ensures c.in_ok-extend_from_slice.ensures.items
    c.in_ok-push_condition.ensures c.in_ok-extend_from_slice-2.ensures.items c.in_ok-push_top-2.ensures
    c.in_ok-extend_from_slice-3.ensures.items
