use Rattle.pd_save.specs.SchemaText.{event_members}
use Rattle.pd_save.proofs.Joined.{joined_seven}
use Rattle.pd_save.proofs.schema.push_event_members.Goals as goal

pub returns : goal.returns
unfolding event_members
returns c =
    joined_seven _ _ _ _ _ _ _ _ _ _ _ _ _ _ _ c.in_ok-extend_from_slice.ensures.items c.in_ok-push_key.ensures
    c.in_ok-extend_from_slice-2.ensures.items c.in_ok-push_event_keys.ensures c.in_ok-extend_from_slice-3.ensures.items
    c.in_ok-push_event_kinds.ensures c.in_ok-extend_from_slice-4.ensures.items
