use Rattle.std.proofs.Common.{codes}
use Rattle.std.proofs.lemmas.Result.{on_ok_weaker}
use Rattle.pd_tell.specs.Members.{number_member}
use Rattle.pd_sweep.proofs.JoinLemmas.{joined_two}
use Rattle.pd_sweep.proofs.objects.push_instant_members.Goals as goal

pub returns : goal.returns
returns c =
    on_ok_weaker c.push_ports.result
    (λ h. joined_two _ _ _ (number_member (codes "lower_at_us") c.args.at) _ c.in_ok-push_number_member.ensures h) c.push_ports.ensures
