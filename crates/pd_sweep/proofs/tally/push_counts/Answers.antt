use Rattle.std.proofs.Common.{codes}
use Rattle.pd_sweep.specs.Tallies.{tried_words}
use Rattle.pd_sweep.proofs.TrialLemmas.{joined_five}
use Rattle.pd_sweep.proofs.tally.push_counts.Goals as goal

pub returns : goal.returns
returns c =
    joined_five _ _ _ _ _ _ (tried_words c.args.tally.now) _ (codes " with a difference, ") _
    (codes " with other contracts at the end\n") c.in_ok-push_tried.ensures c.in_ok-push_number.ensures
    c.in_ok-extend_from_slice.ensures.items c.in_ok-push_number-2.ensures c.in_ok-extend_from_slice-2.ensures.items
