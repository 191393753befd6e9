use Rattle.pd_log.specs.Objects.{fault_members}
use Rattle.pd_log.proofs.Joined.{five}
use Rattle.pd_log.proofs.json.push_fault.Goals as goal

pub returns : goal.returns
unfolding fault_members
returns c =
    five _ _ _ _ _ _ _ _ _ _ _ c.in_ok-extend_from_slice.ensures.items
    (rw (c.from.ensures, c.number.ensures) at c.in_ok-push_number.ensures)
    c.in_ok-extend_from_slice-2.ensures.items c.in_ok-push_number-2.ensures c.in_ok-push_reason.ensures
