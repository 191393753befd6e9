use Rattle.pd_run.specs.Shown.{Shows}
use Rattle.pd_noise.specs.Losses.{first_stage}
use Rattle.pd_noise.proofs.ChainLemmas.{Joins}
use Rattle.pd_noise.proofs.LossLemmas.{left_behind}
use Rattle.pd_noise.proofs.losses.lose.Given as goal

abbrev pub invariant-losses : goal.invariant-losses
invariant-losses g l = record {
  shows : Shows l.plan (g.T.Runner.entries l.run);
  joins : Joins l.noise (first_stage l.scenario l.noise l.number) l.losses.items
      (record { plan = l.plan; place = l.place; generator = l.generator });
}

abbrev pub decreases-losses : goal.decreases-losses
decreases-losses g l = left_behind l.place
