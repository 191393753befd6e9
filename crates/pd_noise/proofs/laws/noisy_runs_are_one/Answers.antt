use Rattle.pd_noise.specs.Losses.{first_stage}
use Rattle.pd_noise.proofs.ChainLemmas.{one_run}
use Rattle.pd_noise.proofs.laws.noisy_runs_are_one.Goals as goal

pub returns : goal.returns
returns g c noise run a b p q moves others is other = one_run noise (first_stage c noise run) a b p q moves others is other
