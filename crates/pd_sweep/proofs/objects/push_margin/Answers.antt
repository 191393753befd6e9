use Rattle.std.proofs.Common.{codes}
use Rattle.std.proofs.lemmas.Result.{on_ok_weaker}
use Rattle.pd_tell.specs.Members.{number_member}
use Rattle.pd_sweep.proofs.JoinLemmas.{joined_two}
use Rattle.pd_sweep.proofs.objects.push_margin.Goals as goal

pub returns : goal.returns
returns c =
    on_ok_weaker c.push_lower.result
    (λ h. joined_two _ _ _ (number_member (codes "least_margin_uw") c.args.new.now.margin.left) _ c.in_ok-push_number_member.ensures h)
    c.push_lower.ensures
