use Rattle.std.proofs.Common.{codes}
use Rattle.pd_sweep.proofs.TrialLemmas.{joined_three}
use Rattle.pd_sweep.specs.Objects.{changes_member}
use Rattle.pd_sweep.proofs.objects.push_changes_member.Goals as goal

pub returns : goal.returns
unfolding changes_member
returns c =
    joined_three _ _ _ _ (codes ",\"contracts\":[") _ (codes "]") c.in_ok-extend_from_slice.ensures.items
    c.in_ok-push_changes.ensures c.in_ok-extend_from_slice-2.ensures.items
