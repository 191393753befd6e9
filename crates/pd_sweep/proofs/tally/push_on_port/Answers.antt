use Rattle.std.proofs.Common.{codes}
use Rattle.pd_sweep.proofs.TrialLemmas.{joined_eight}
use Rattle.pd_sweep.proofs.tally.push_on_port.Goals as goal

pub returns : goal.returns
returns c =
    joined_eight _ _ _ _ _ _ _ _ _ _ _ _ (codes " on port ") _ (codes ", ") _ (codes "\n") c.in_ok-extend_from_slice.ensures.items
    c.in_ok-push_number.ensures c.in_ok-extend_from_slice-2.ensures.items c.in_ok-extend_from_slice-3.ensures.items
    c.in_ok-push_number-2.ensures c.in_ok-extend_from_slice-4.ensures.items c.in_ok-push_packets.ensures
    c.in_ok-extend_from_slice-5.ensures.items
