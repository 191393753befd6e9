use Rattle.pd_log.specs.Objects.{counts_members}
use Rattle.pd_log.proofs.Joined.{five}
use Rattle.pd_log.proofs.json.push_counts.Goals as goal

pub returns : goal.returns
unfolding counts_members
returns c =
    five _ _ _ _ _ _ _ _ _ _ _ c.in_ok-extend_from_slice.ensures.items c.in_ok-push_number.ensures c.in_ok-push_told.ensures
    c.in_ok-extend_from_slice-2.ensures.items c.in_ok-push_header_object.ensures
