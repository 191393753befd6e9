use Rattle.std.proofs.Common.{codes}
use Rattle.pd_sweep.proofs.TrialLemmas.{joined_five}
use Rattle.pd_sweep.proofs.tally.push_low.Goals as goal

pub returns : goal.returns
returns c =
    joined_five _ _ _ _ _ _ _ _ (codes ", ") _ (codes "\n") c.in_ok-push_number.ensures c.in_ok-push_instant.ensures
    c.in_ok-extend_from_slice.ensures.items c.in_ok-push_packets.ensures c.in_ok-extend_from_slice-2.ensures.items
