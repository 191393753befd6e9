use Rattle.std.proofs.Common.{codes}
use Rattle.std.proofs.lemmas.Result.{on_ok_weaker}
use Rattle.pd_sweep.proofs.TrialLemmas.{joined_three}
use Rattle.pd_sweep.proofs.words.push_margin.Goals as goal

pub returns : goal.returns
returns c =
    on_ok_weaker c.push_lower.result
    (λ h. joined_three _ _ _ _ (codes "; least margin ") _ _ c.in_ok-extend_from_slice.ensures.items c.in_ok-push_number.ensures h)
    c.push_lower.ensures
