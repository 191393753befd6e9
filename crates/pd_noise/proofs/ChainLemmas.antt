-- Losing one packet after another.
use Rattle.std.proofs.Common.{◌≡◌, ℕ, List, [], ◌∷◌, ◌++◌, length, Option, map}
use Rattle.std.proofs.Common.{refl, sym, ap, ◌∙◌, subst, append_assoc}
use Rattle.std.proofs.lemmas.List.{append-nil}
use Rattle.pd_port.specs.declared.entry.Entry.{Entry}
use Rattle.pd_run.specs.Run.{shown}
use Rattle.pd_run.specs.Shown.{Shows}
use Rattle.pd_run.proofs.OneRun.{run_unique}
use Rattle.pd_scenario.specs.Plan.{Plan, force}
use Rattle.pd_scenario.specs.Plans.{plan_of}
use Rattle.pd_scenario.specs.Scenarios.{ScenarioData}
use Rattle.pd_report.specs.LeastMargin.{IsLeastMargin, margin_at}
use Rattle.pd_report.specs.declared.least.Margin.{Margin}
use Rattle.pd_sweep.specs.Beside.{measures_by}
use Rattle.pd_sweep.specs.Lost.{lost}
use Rattle.pd_sweep.specs.Measures.{steps_of}
use Rattle.pd_sweep.specs.Summaries.{AreFindings}
use Rattle.pd_sweep.specs.Trials.{IsBaseOf}
use Rattle.pd_sweep.specs.declared.base.Base.{Base}
use Rattle.pd_sweep.specs.declared.choice.Loss.TheVariants as loss
use Rattle.pd_sweep.specs.declared.findings.Findings.{Findings}
use Rattle.pd_sweep.specs.declared.measure.Step.{Step}
use Rattle.pd_sweep.specs.declared.packets.Target.{Target}
use Rattle.pd_sweep.proofs.ChangeLemmas.{measured_by_steps}
use Rattle.pd_noise.specs.Laws.{with_losses}
use Rattle.pd_noise.specs.Losses.{IsLast, IsNoisyRun, LeadsTo, Loses, Stage, draws, first_stage, place_of, undrawn}
use Rattle.pd_noise.specs.Noisies.{IsNoisy}
use Rattle.pd_noise.specs.declared.noise.Noise.{Noise}
use Rattle.pd_noise.specs.declared.noisy.Noisy.{Noisy}
use Rattle.pd_noise.specs.declared.place.Place.{Place}

-- ---- the plan

module _ (plan : Plan) (t : Target) where
  same_margin : (moves : List (ℕ × Entry)) (at : ℕ) → margin_at (lost plan loss.Lost 0 t) moves at ≡ margin_at plan moves at
  unfolding lost force
  same_margin moves at = refl

  same_end : (lost plan loss.Lost 0 t).end ≡ plan.end
  unfolding lost
  same_end = refl

  same_least : (moves : List (ℕ × Entry)) (m : Margin) → IsLeastMargin plan moves m → IsLeastMargin (lost plan loss.Lost 0 t) moves m
  same_least moves m is =
      let margin = same_margin moves in
      record {
        soon = rw same_end is.soon;
        left_is = is.left_is ∙ sym (margin m.at);
        is_least = λ at soon. rw (margin at) (is.is_least at (rw same_end at soon));
        is_first = λ at early. rw (margin at) (is.is_first at early);
      }

  -- what is found of a run by the budget of a plan is found of it by that of the plan with a loss
  same_findings : (moves : List (ℕ × Entry)) (findings : Findings) → AreFindings plan moves findings
      → AreFindings (lost plan loss.Lost 0 t) moves findings
  same_findings moves findings are = record {
    summary_is = are.summary_is;
    margin_is = same_least moves findings.margin are.margin_is;
    makers_are = are.makers_are;
  }

-- ---- one loss after another

module _ (noise : Noise) where
  -- the plan with all losses
  pub plan_is : (a : Stage) (ts : List Target) (plan : Plan) (moves : List (ℕ × Entry)) → LeadsTo noise a ts plan moves
      → plan ≡ with_losses a.plan ts
  plan_is a [] plan moves leads = sym leads.0
  plan_is a (t ∷ ts) plan moves (b, loses, leads) =
      plan_is b ts plan moves leads ∙ ap (λ p. with_losses p ts) loses.plan_is

  pub findings_are : (a : Stage) (ts : List Target) (plan : Plan) (moves others : List (ℕ × Entry)) (findings : Findings)
      → LeadsTo noise a ts plan moves → AreFindings a.plan others findings → AreFindings plan others findings
  findings_are a [] plan moves others findings leads are = subst (λ p. AreFindings p others findings) leads.0 are
  findings_are a (t ∷ ts) plan moves others findings (b, loses, leads) are =
      findings_are b ts plan moves others findings leads
      (subst (λ p. AreFindings p others findings) (sym loses.plan_is) (same_findings a.plan t others findings are))

  -- what some losses come to, with others behind them
  abbrev pub Joins : Stage → List Target → Stage → Type 0
  Joins first losses last =
      (ts : List Target) (plan : Plan) (moves : List (ℕ × Entry)) → LeadsTo noise last ts plan moves
      → LeadsTo noise first (losses ++ ts) plan moves

  pub joins_none : (a : Stage) → Joins a [] a
  joins_none a ts plan moves leads = leads

  pub joins_one : (first a b : Stage) (losses : List Target) (t : Target) → Joins first losses a → Loses noise a t b
      → Joins first (losses ++ t ∷ []) b
  joins_one first a b losses t joins loses ts plan moves leads =
      subst (λ l. LeadsTo noise first l plan moves) (sym (append_assoc losses (t ∷ []) ts)) (joins (t ∷ ts) plan moves (b, loses, leads))

  -- and with none
  pub joins_all : (first a : Stage) (losses : List Target) (moves : List (ℕ × Entry)) → Joins first losses a → IsLast noise a moves
      → LeadsTo noise first losses a.plan moves
  joins_all first a losses moves joins last =
      subst (λ l. LeadsTo noise first l a.plan moves) (append-nil losses) (joins [] a.plan moves (refl, last))

-- ---- only one run

shows_one : (plan : Plan) (a b : List (ℕ × Entry)) → Shows plan a → Shows plan b → a ≡ b
shows_one plan a b shows other =
    shows.entries_are ∙ ap (map shown) (run_unique plan shows.moves other.moves shows.safe.run other.safe.run) ∙ sym other.entries_are

module _ (noise : Noise) where
  abbrev drawn_in : Stage → List (ℕ × Entry) → Option Target × List ℕ
  drawn_in a moves = draws noise.share a.generator (undrawn noise.choice a.place moves)

  same_draws : (a : Stage) (moves others : List (ℕ × Entry)) → Shows a.plan moves → Shows a.plan others
      → drawn_in a moves ≡ drawn_in a others
  same_draws a moves others shows other = ap (drawn_in a) (shows_one a.plan moves others shows other)

  none_or_one : (a b : Stage) (t : Target) (moves : List (ℕ × Entry)) → IsLast noise a moves → Loses noise a t b → ⊥
  none_or_one a b t moves last loses =
      let same = ap (λ (x : Option Target × List ℕ). x.0)
      (same_draws a moves loses.moves last.shows loses.shows ∙ loses.drawn) in
      let none = last.none_lost in
      cc

  same_target : (a b d : Stage) (t u : Target) → Loses noise a t b → Loses noise a u d → t ≡ u
  same_target a b d t u loses other =
      let both = sym loses.drawn ∙ same_draws a loses.moves other.moves loses.shows other.shows ∙ other.drawn in
      let some = ap (λ (x : Option Target × List ℕ). x.0) both in
      cc

  same_generator : (a b d : Stage) (t u : Target) → Loses noise a t b → Loses noise a u d → b.generator ≡ d.generator
  same_generator a b d t u loses other =
      ap (λ (x : Option Target × List ℕ). x.1)
      (sym loses.drawn ∙ same_draws a loses.moves other.moves loses.shows other.shows ∙ other.drawn)

  abbrev stage_of : Plan → Place → List ℕ → Stage
  stage_of plan place generator = record { plan = plan; place = place; generator = generator }

  same_stage : (a b d : Stage) (t u : Target) → Loses noise a t b → Loses noise a u d → b ≡ d
  same_stage a b d t u loses other =
      let target = same_target a b d t u loses other in
      let generator = same_generator a b d t u loses other in
      let plan : b.plan ≡ d.plan = loses.plan_is ∙ ap (lost a.plan loss.Lost 0) target ∙ sym other.plan_is in
      let place : b.place ≡ d.place = loses.place_is ∙ ap place_of target ∙ sym other.place_is in
      ap (λ p. stage_of p b.place b.generator) plan ∙ ap (λ p. stage_of d.plan p b.generator) place
      ∙ ap (stage_of d.plan d.place) generator

  pub one_run : (a : Stage) (ts us : List Target) (p q : Plan) (moves others : List (ℕ × Entry)) → LeadsTo noise a ts p moves
      → LeadsTo noise a us q others → ts ≡ us
  one_run a [] [] p q moves others leads other = refl
  one_run a [] (u ∷ us) p q moves others leads (d, loses, rest) = absurd (none_or_one a d u moves leads.1 loses)
  one_run a (t ∷ ts) [] p q moves others (b, loses, rest) other = absurd (none_or_one a b t others other.1 loses)
  one_run a (t ∷ ts) (u ∷ us) p q moves others (b, loses, rest) (d, loses_too, rest_too) =
      let same = same_stage a b d t u loses loses_too in
      ap (λ x. x ∷ ts) (same_target a b d t u loses loses_too)
      ∙ ap (λ l. u ∷ l) (one_run b ts us p q moves others rest (subst (λ s. LeadsTo noise s us q others) (sym same) rest_too))

-- ---- beside the run without a loss

pub is_noisy : (c : ScenarioData) (noise : Noise) (run : ℕ) (base : Base) (noisy : Noisy) (losses : List Target) (plan : Plan)
    (moves : List (ℕ × Entry)) (end : ℕ) → IsBaseOf c base → end ≡ (plan_of c).end → IsNoisyRun c noise run losses plan moves
    → noisy.lost ≡ length losses → AreFindings (plan_of c) moves noisy.effect.findings
    → noisy.effect.measures ≡ measures_by end base.steps.items (steps_of end moves) → IsNoisy c noise run noisy
is_noisy c noise run base noisy losses plan moves end is same runs lost_is found measured = record {
  losses = losses;
  plan = plan;
  moves = moves;
  is_run = runs;
  lost_is = lost_is;
  found = findings_are noise (first_stage c noise run) losses plan moves moves noisy.effect.findings runs found;
  base = is.moves;
  base_shows = is.shows;
  measured =
      measured ∙ ap (λ k. measures_by k base.steps.items (steps_of k moves)) same
      ∙ ap (λ (l : List Step). measures_by (plan_of c).end l (steps_of (plan_of c).end moves)) is.is.steps_are
      ∙ measured_by_steps (plan_of c).end is.moves moves;
}
