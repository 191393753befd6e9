-- What holds of runs with losses by lot, and of what many of them come to.
use Rattle.std.specs.Prelude.{◌≡◌, ℕ, ◌<◌, ◌≤◌, List, Contains, fold, length}
use Rattle.pd_port.specs.declared.entry.Entry.{Entry}
use Rattle.pd_scenario.specs.Plan.{Plan}
use Rattle.pd_scenario.specs.Plans.{plan_of}
use Rattle.pd_scenario.specs.Scenarios.{ScenarioData}
use Rattle.pd_sweep.specs.Lost.{lost}
use Rattle.pd_sweep.specs.declared.choice.Loss.TheVariants as loss
use Rattle.pd_sweep.specs.declared.packets.Target.{Target}
use Rattle.pd_noise.specs.Losses.{IsNoisyRun}
use Rattle.pd_noise.specs.Ranks.{spread_of}
use Rattle.pd_noise.specs.declared.noise.Noise.{Noise}

-- each is one of the numbers, and they rise
pub record IsSpread (xs : List ℕ) : Type 0 where
  pub least : Contains xs (spread_of xs).least
  pub median : Contains xs (spread_of xs).median
  pub high : Contains xs (spread_of xs).high
  pub greatest : Contains xs (spread_of xs).greatest
  pub low_half : (spread_of xs).least ≤ (spread_of xs).median
  pub high_half : (spread_of xs).median ≤ (spread_of xs).high
  pub tail : (spread_of xs).high ≤ (spread_of xs).greatest

abbrev pub SpreadsAreOfTheNumbers : Type 0
SpreadsAreOfTheNumbers = (xs : List ℕ) → 0 < length xs → IsSpread xs

-- a plan with these losses, each put in as `sweep` does
abbrev pub with_losses : Plan → List Target → Plan
with_losses plan losses = fold (λ p t. lost p loss.Lost 0 t) plan losses

-- the plan of a noisy run is the scenario's with its losses, and nothing else
abbrev pub LossesAreInThePlan : Type 0
LossesAreInThePlan =
    (c : ScenarioData) (noise : Noise) (run : ℕ) (losses : List Target) (plan : Plan) (moves : List (ℕ × Entry))
    → IsNoisyRun c noise run losses plan moves → plan ≡ with_losses (plan_of c) losses

-- The number of a run, with the scenario, the choice, the probability and the seed, determines what is lost in it.
abbrev pub NoisyRunsAreOne : Type 0
NoisyRunsAreOne =
    (c : ScenarioData) (noise : Noise) (run : ℕ) (a b : List Target) (p q : Plan) (moves others : List (ℕ × Entry))
    → IsNoisyRun c noise run a p moves → IsNoisyRun c noise run b q others → a ≡ b
