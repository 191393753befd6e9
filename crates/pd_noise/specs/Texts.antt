-- What is told of runs with losses by lot, for a scenario.
use Rattle.std.specs.Prelude.{◌≡◌, ℕ, List, [], length, Option, Some, None}
use Rattle.pd_port.specs.declared.entry.Entry.{Entry}
use Rattle.pd_run.specs.Shown.{Shows}
use Rattle.pd_scenario.specs.Plan.{Plan}
use Rattle.pd_scenario.specs.Plans.{plan_of}
use Rattle.pd_scenario.specs.Scenarios.{ScenarioData}
use Rattle.pd_sweep.specs.Summaries.{AreFindings}
use Rattle.pd_sweep.specs.declared.findings.Findings.{Findings}
use Rattle.pd_sweep.specs.declared.packets.Target.{Target}
use Rattle.pd_noise.specs.EditScripts.{script_words}
use Rattle.pd_noise.specs.Losses.{IsNoisyRun}
use Rattle.pd_noise.specs.Noisies.{AreNoisy}
use Rattle.pd_noise.specs.Reports.{report_words}
use Rattle.pd_noise.specs.Worsts.{worst_from}
use Rattle.pd_noise.specs.declared.noise.Noise.{Noise}
use Rattle.pd_noise.specs.declared.noise.Runs.{Runs}
use Rattle.pd_noise.specs.declared.noise.Telling.{Telling}
use Rattle.pd_noise.specs.declared.noise.Telling.TheVariants.{Report, Edits}
use Rattle.pd_noise.specs.declared.noisy.Noisy.{Noisy}
use Rattle.pd_noise.specs.declared.worst.Worst.{Worst}

-- the text is the edit script of this run
pub record IsScript (n : ℕ) (c : ScenarioData) (noise : Noise) (run : ℕ) (said : List ℕ) : Type 0 where
  pub losses : List Target
  pub plan : Plan
  pub moves : List (ℕ × Entry)
  pub is_run : IsNoisyRun c noise run losses plan moves
  pub said_is : said ≡ script_words n c noise run losses

-- the worst run as an edit script; where there is no run, nothing
abbrev pub IsScriptOf : ℕ → ScenarioData → Noise → Option Worst → List ℕ → Type 0
IsScriptOf n c noise None said = said ≡ []
IsScriptOf n c noise (Some w) said = IsScript n c noise w.run said

abbrev pub Says : ℕ → ScenarioData → Noise → ℕ → Findings → List Noisy → Telling → List ℕ → Type 0
Says n c noise run without xs Report said = said ≡ report_words noise run without xs
Says n c noise run without xs Edits said = IsScriptOf n c noise (worst_from run None xs) said

-- the text tells of all these runs of a scenario of n ports
pub record TellsNoise (n : ℕ) (c : ScenarioData) (noise : Noise) (runs : Runs) (telling : Telling) (said : List ℕ) : Type 0 where
  pub base : List (ℕ × Entry)
  pub shows : Shows (plan_of c) base
  pub without : Findings
  pub without_is : AreFindings (plan_of c) base without
  pub noisies : List Noisy
  pub count_is : length noisies ≡ runs.count
  pub each : AreNoisy c noise runs.first noisies
  pub says : Says n c noise runs.first without noisies telling said
