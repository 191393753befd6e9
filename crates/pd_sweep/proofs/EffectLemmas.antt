-- What the run of a variant comes to beside the base.
use Rattle.std.proofs.Common.{◌≡◌, ℕ, true, List, ap, ◌∙◌}
use Rattle.pd_port.specs.declared.entry.Entry.{Entry}
use Rattle.pd_run.specs.Shown.{Shows}
use Rattle.pd_scenario.specs.Plan.{Plan}
use Rattle.pd_scenario.specs.Plans.{plan_of}
use Rattle.pd_scenario.specs.Scenarios.{ScenarioData}
use Rattle.pd_sweep.specs.Beside.{AreInOrder, measures_by}
use Rattle.pd_sweep.specs.Measures.{steps_of}
use Rattle.pd_sweep.specs.Summaries.{AreFindings}
use Rattle.pd_sweep.specs.Trials.{IsBaseOf, IsEffect, are_hit}
use Rattle.pd_sweep.specs.declared.base.Base.{Base}
use Rattle.pd_sweep.specs.declared.effect.Effect.{Effect}
use Rattle.pd_sweep.specs.declared.measure.Step.{Step}
use Rattle.pd_sweep.specs.declared.packets.Target.{Target}
use Rattle.pd_sweep.proofs.ChangeLemmas.{measured_by_steps}

module _ (c : ScenarioData) (base : Base) (is : IsBaseOf c base) (end : ℕ) (same : end ≡ (plan_of c).end) where
  pub base_in_order : AreInOrder end base.steps.items
  base_in_order = rw same is.is.in_order

  pub is_effect : (plan : Plan) (ts : List Target) (effect : Effect) (moves : List (ℕ × Entry)) → Shows plan moves
      → are_hit c.events ts moves ≡ true → AreFindings plan moves effect.findings
      → effect.measures ≡ measures_by end base.steps.items (steps_of end moves) → IsEffect c plan ts effect
  is_effect plan ts effect moves shows hit found measured = record {
    base = is.moves;
    base_shows = is.shows;
    moves = moves;
    shows = shows;
    hit = hit;
    found = found;
    measured =
        measured ∙ ap (λ k. measures_by k base.steps.items (steps_of k moves)) same
        ∙ ap (λ (l : List Step). measures_by (plan_of c).end l (steps_of (plan_of c).end moves)) is.is.steps_are
        ∙ measured_by_steps (plan_of c).end is.moves moves;
  }
