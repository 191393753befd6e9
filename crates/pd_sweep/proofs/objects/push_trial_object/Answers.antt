use Rattle.std.proofs.Common.{codes}
use Rattle.pd_sweep.proofs.TrialLemmas.{joined_four}
use Rattle.pd_sweep.specs.Objects.{trial_object}
use Rattle.pd_sweep.proofs.objects.push_trial_object.Goals as goal

pub returns : goal.returns
unfolding trial_object
returns c =
    joined_four _ _ _ _ _ (codes "{\"kind\":\"packet\"") _ _ (codes "}\n") c.in_ok-extend_from_slice.ensures.items
    c.in_ok-push_packets_members.ensures c.in_ok-push_outcome.ensures c.in_ok-extend_from_slice-2.ensures.items
