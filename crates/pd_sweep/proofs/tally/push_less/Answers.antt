use Rattle.std.proofs.Common.{codes}
use Rattle.pd_sweep.proofs.TrialLemmas.{joined_four}
use Rattle.pd_sweep.proofs.tally.push_less.Goals as goal

pub returns : goal.returns
returns c =
    joined_four _ _ _ _ _ _ (codes " left less than ") _ (codes " mW\n") c.in_ok-push_number.ensures
    c.in_ok-extend_from_slice.ensures.items c.in_ok-push_number-2.ensures c.in_ok-extend_from_slice-2.ensures.items
