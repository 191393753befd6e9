use Rattle.pd_log.specs.Objects.{cable_members}
use Rattle.pd_log.proofs.Joined.{two}
use Rattle.pd_log.proofs.json.push_cable_reset.Goals as goal

pub returns : goal.returns
unfolding cable_members
returns c = two _ _ _ _ _ c.in_ok-extend_from_slice.ensures.items c.in_ok-push_mark.ensures
