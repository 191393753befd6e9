use Rattle.std.proofs.Common.{codes}
use Rattle.pd_sweep.proofs.TrialLemmas.{joined_three}
use Rattle.pd_sweep.specs.Columns.{tally_object}
use Rattle.pd_sweep.proofs.columns.push_tally_object.Goals as goal

pub returns : goal.returns
unfolding tally_object
returns c =
    joined_three _ _ _ _ (codes "{\"kind\":\"summary\"") _ (codes "}\n") c.in_ok-extend_from_slice.ensures.items
    c.in_ok-push_members.ensures c.in_ok-extend_from_slice-2.ensures.items
