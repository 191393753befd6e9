use Rattle.pd_log.specs.Objects.{either_members}
use Rattle.pd_log.proofs.Joined.{five}
use Rattle.pd_log.proofs.json.push_either.Goals as goal

pub returns : goal.returns
unfolding either_members
returns c =
    five _ _ _ _ _ _ _ _ _ _ _ c.in_ok-extend_from_slice.ensures.items c.in_ok-push_packet_object.ensures
    c.in_ok-extend_from_slice-2.ensures.items c.in_ok-push_packet_object-2.ensures c.in_ok-extend_from_slice-3.ensures.items
