use Rattle.std.proofs.Common.{codes}
use Rattle.std.proofs.lemmas.Result.{on_ok_weaker}
use Rattle.pd_expect.specs.Details.{no_other_words}
use Rattle.pd_expect.proofs.JoinLemmas.{joined_two}
use Rattle.pd_expect.proofs.notes.push_no_other.Goals as goal

pub returns : goal.returns
unfolding no_other_words
returns c =
    on_ok_weaker c.push_number.result
    (λ h. joined_two _ _ _ (codes ", and no other on port ") _ c.in_ok-extend_from_slice.ensures.items h) c.push_number.ensures
