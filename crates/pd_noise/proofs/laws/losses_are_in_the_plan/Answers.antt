use Rattle.pd_noise.specs.Losses.{first_stage}
use Rattle.pd_noise.proofs.ChainLemmas.{plan_is}
use Rattle.pd_noise.proofs.laws.losses_are_in_the_plan.Goals as goal

pub returns : goal.returns
returns g c noise run losses plan moves is = plan_is noise (first_stage c noise run) losses plan moves is
