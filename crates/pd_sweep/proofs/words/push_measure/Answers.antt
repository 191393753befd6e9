use Rattle.std.proofs.Common.{codes}
use Rattle.std.proofs.lemmas.Result.{on_ok_weaker}
use Rattle.pd_sweep.proofs.TrialLemmas.{joined_four}
use Rattle.pd_sweep.proofs.words.push_measure.Goals as goal

pub returns : goal.returns
returns c =
    on_ok_weaker c.push_number.result
    (λ h. joined_four _ _ _ _ _ _ _ (codes " differs until ") _ c.in_ok-push_time.ensures c.in_ok-push_time-2.ensures
    c.in_ok-extend_from_slice.ensures.items (rw c.extent.ensures at h))
    c.push_number.ensures
