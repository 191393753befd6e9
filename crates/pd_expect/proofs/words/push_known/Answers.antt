use Rattle.std.proofs.Common.{codes, [], ◌∷◌}
use Rattle.pd_sweep.proofs.TrialLemmas.{joined_seven}
use Rattle.pd_expect.proofs.words.push_known.Goals as goal

pub returns : goal.returns
returns c =
    joined_seven _ _ _ _ _ _ _ _ (codes "contract ") _ (32 ∷ []) _ (codes " mV ") _ (codes " mA")
    c.in_ok-extend_from_slice.ensures.items c.in_ok-push_number.ensures c.in_ok-push.ensures.items c.in_ok-push_number-2.ensures
    c.in_ok-extend_from_slice-2.ensures.items c.in_ok-push_number-3.ensures c.in_ok-extend_from_slice-3.ensures.items
