use Rattle.pd_save.specs.SchemaText.{event_definition}
use Rattle.pd_save.proofs.Joined.{joined_three}
use Rattle.pd_save.proofs.schema.push_event_definition.Goals as goal

pub returns : goal.returns
unfolding event_definition
returns c =
    joined_three _ _ _ _ _ _ _ c.in_ok-push_event_head.ensures c.in_ok-push_event_members.ensures
    c.in_ok-extend_from_slice.ensures.items
