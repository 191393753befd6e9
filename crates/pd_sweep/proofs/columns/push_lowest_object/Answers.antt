use Rattle.std.proofs.Common.{codes}
use Rattle.pd_sweep.proofs.TrialLemmas.{joined_five}
use Rattle.pd_sweep.proofs.columns.push_lowest_object.Goals as goal

pub returns : goal.returns
returns c =
    joined_five _ _ _ _ _ _ (codes "{\"least_margin_uw\":") _ _ _ (codes "}") c.in_ok-extend_from_slice.ensures.items
    c.in_ok-push_number.ensures c.in_ok-push_instant_members.ensures c.in_ok-push_packets_members.ensures
    c.in_ok-extend_from_slice-2.ensures.items
