use Rattle.std.proofs.Common.{◌∙◌, List, ap}
use Rattle.pd_scenario.specs.Plans.{plan_of}
use Rattle.pd_sweep.specs.Beside.{measures_by}
use Rattle.pd_sweep.specs.Measures.{steps_of}
use Rattle.pd_sweep.specs.declared.measure.Step.{Step}
use Rattle.pd_sweep.proofs.ChangeLemmas.{measured_by_steps}
use Rattle.pd_vary.proofs.numbers.measure_run.Goals as goal

pub returns-in-Ok-verdicts_of-clause-value : goal.returns-in-Ok-verdicts_of-clause-value
returns-in-Ok-verdicts_of-clause-value g c =
    let moves = g.T.Runner.entries c.replace.new.self in
    let steps = c.args.base.now.steps.items in
    let end = (plan_of c.args.scenario.now).end in
    record {
      before = c.requires.moves;
      before_shows = c.requires.shows;
      moves = moves;
      shows = c.in-Ok.ensures.run;
      effect = c.in-Ok-of.effect;
      found = c.in-Ok-of.ensures.found;
      measures =
          c.in-Ok-of.ensures.measured ∙ ap (λ k. measures_by k steps (steps_of k moves)) c.end_time.ensures.value
          ∙ ap (λ (l : List Step). measures_by end l (steps_of end moves)) c.requires.is.steps_are
          ∙ measured_by_steps end c.requires.moves moves;
      numbers_are = c.in-Ok-numbers_of.ensures;
      held = c.in-Ok-verdicts_of.ensures;
    }
