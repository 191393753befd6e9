-- What runs with losses by lot come to beside the run without a loss.
use Rattle.std.specs.Prelude.{◌≡◌, ℕ, ◌+◌, List, [], ◌∷◌, length}
use Rattle.pd_port.specs.declared.entry.Entry.{Entry}
use Rattle.pd_run.specs.Shown.{Shows}
use Rattle.pd_scenario.specs.Plan.{Plan}
use Rattle.pd_scenario.specs.Plans.{plan_of}
use Rattle.pd_scenario.specs.Scenarios.{ScenarioData}
use Rattle.pd_sweep.specs.Measures.{measures_of}
use Rattle.pd_sweep.specs.Summaries.{AreFindings}
use Rattle.pd_sweep.specs.declared.packets.Target.{Target}
use Rattle.pd_noise.specs.Losses.{IsNoisyRun}
use Rattle.pd_noise.specs.declared.noise.Noise.{Noise}
use Rattle.pd_noise.specs.declared.noisy.Noisy.{Noisy}

-- it is of the run of this number: how many packets are lost in it, what is found of it, and how its contracts differ
pub record IsNoisy (c : ScenarioData) (noise : Noise) (run : ℕ) (noisy : Noisy) : Type 0 where
  pub losses : List Target
  pub plan : Plan
  pub moves : List (ℕ × Entry)
  pub is_run : IsNoisyRun c noise run losses plan moves
  pub lost_is : noisy.lost ≡ length losses
  pub found : AreFindings plan moves noisy.effect.findings
  pub base : List (ℕ × Entry)
  pub base_shows : Shows (plan_of c) base
  pub measured : noisy.effect.measures ≡ measures_of (plan_of c).end base moves

-- so are these of the runs from a number on
abbrev pub AreNoisy : ScenarioData → Noise → ℕ → List Noisy → Type 0
AreNoisy c noise run [] = Unit {0}
AreNoisy c noise run (x ∷ xs) = IsNoisy c noise run x × AreNoisy c noise (run + 1) xs
