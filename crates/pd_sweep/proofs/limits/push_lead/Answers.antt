use Rattle.std.proofs.Common.{codes}
use Rattle.pd_sweep.proofs.TrialLemmas.{joined_four}
use Rattle.pd_sweep.specs.Limits.{limit_lead}
use Rattle.pd_sweep.proofs.limits.push_lead.Goals as goal

pub returns : goal.returns
unfolding limit_lead
returns c =
    joined_four _ _ _ _ _ _ (codes ": --fail-on ") _ (codes ": ") c.in_ok-extend_from_slice.ensures.items
    c.in_ok-extend_from_slice-2.ensures.items c.in_ok-extend_from_slice-3.ensures.items c.in_ok-extend_from_slice-4.ensures.items
