use Rattle.std.proofs.Common.{codes}
use Rattle.std.proofs.lemmas.Result.{on_ok_weaker}
use Rattle.pd_sweep.proofs.TrialLemmas.{joined_four}
use Rattle.pd_sweep.specs.Columns.{lowest_member}
use Rattle.pd_sweep.proofs.columns.push_members.Goals as goal

pub returns : goal.returns
returns c =
    on_ok_weaker c.push_short.result
    (λ h. joined_four _ _ _ _ _ _ _ (lowest_member (codes "least_margin") c.args.tally.now.margin) _ c.in_ok-push_counts.ensures
    c.in_ok-push_columns.ensures c.in_ok-push_lowest_member.ensures h)
    c.push_short.ensures
