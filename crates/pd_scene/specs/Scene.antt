-- What a job comes to, for the scenario of a text.
use Rattle.std.specs.Prelude.{◌≡◌, ℕ, ◌⊎◌, Bool, true, false, List, Option, None, Some, Result, Ok, Err}
use Rattle.std.specs.Str.Lines.{lines}
use Rattle.pd_device.specs.declared.fault.BenchFault.{BenchFault}
use Rattle.pd_device.specs.declared.fault.BenchFault.TheVariants.{Memory}
use Rattle.pd_scenario.specs.Limits.{is_port}
use Rattle.pd_scenario.specs.Scenarios.{ScenarioData}
use Rattle.pd_scenario_text.specs.Texts.{IsRefused, IsScenarioText}
use Rattle.pd_scene.specs.Script.{followed, is_any_refused}
use Rattle.pd_scene.specs.declared.edits.Refused.{Refused}
use Rattle.pd_scene.specs.declared.edits.Refused.TheVariants.{Ends, Skipped}
use Rattle.pd_scene.specs.declared.scene.SceneFault.{SceneFault}
use Rattle.pd_scene.specs.declared.scene.SceneFault.TheVariants as fault

-- the port that has to be there is, if any has to
abbrev pub has_port : ℕ → Option ℕ → Bool
has_port n None = true
has_port n (Some port) = is_port n port

-- it holds of the scenario that the text is
pub record OfScene (text : List ℕ) (P : ℕ → ScenarioData → Type 0) : Type 0 where
  pub ports : ℕ
  pub scenario : ScenarioData
  pub is_scenario : IsScenarioText text ports scenario
  pub holds : P ports scenario

-- what a job comes to for a scenario of so many ports: by its answer, from what W was to what it is then
abbrev pub Does : Type 0 → Type 0 → Type 1
Does A W = ℕ → ScenarioData → Result A BenchFault → W → W → Type 0

-- The job is done for the scenario that the text is; where that is refused, or hasn't the port that the job needs, all is as it was.
abbrev pub Scene : {A W : Type 0} → Option ℕ → Does A W → Result A SceneFault → List ℕ → W → W → Type 0
Scene needs does (Ok x) text old new = OfScene text (λ n s. (has_port n needs ≡ true) × does n s (Ok x) old new)
Scene needs does (Err (fault.Scenario refusal)) text old new = IsRefused text refusal × (new ≡ old)
Scene needs does (Err fault.Lines) text old new = ⊥
Scene needs does (Err fault.NoSuchPort) text old new = OfScene text (λ n s. (has_port n needs ≡ false) × (new ≡ old))
Scene needs does (Err (fault.Job failure)) text old new =
    OfScene text (λ n s. (has_port n needs ≡ true) × does n s (Err failure) old new)

-- ---- the same for the scenario as a script leaves it

-- it ends where a line is refused, or goes on all the same
abbrev pub is_ended : Refused → Bool → Bool
is_ended Ends any = any
is_ended Skipped any = false

-- a refused line of the script ends it
abbrev pub ends : Refused → ℕ → ScenarioData → List ℕ → Bool
ends refused n s script = is_ended refused (is_any_refused n s (lines script))

-- A job on the scenario as a script leaves it. It answers nothing where a refused line ended it, or there was no memory for the edits,
-- and all is as it was.
abbrev pub follows : {A W : Type 0} → Refused → Does A W → List ℕ → Does (Option A) W
follows refused does script n s (Ok (Some x)) old new =
    (ends refused n s script ≡ false) × does n (followed n s (lines script)) (Ok x) old new
follows refused does script n s (Ok None) old new = (ends refused n s script ≡ true) × (new ≡ old)
follows refused does script n s (Err failure) old new =
    ((ends refused n s script ≡ false) × does n (followed n s (lines script)) (Err failure) old new)
    ⊎ ((failure ≡ Memory) × (new ≡ old))

-- no answer is the fault that a line of the script is refused
abbrev pub unless_ended : {A : Type 0} → Result A SceneFault → Result (Option A) SceneFault
unless_ended (Ok x) = Ok (Some x)
unless_ended (Err fault.Lines) = Ok None
unless_ended (Err (fault.Scenario refusal)) = Err (fault.Scenario refusal)
unless_ended (Err fault.NoSuchPort) = Err fault.NoSuchPort
unless_ended (Err (fault.Job failure)) = Err (fault.Job failure)

-- The job is done for the scenario that the text is, as the script leaves it.
abbrev pub EditedScene : {A W : Type 0} → Refused → Option ℕ → Does A W → List ℕ → Result A SceneFault → List ℕ → W → W → Type 0
EditedScene refused needs does script result = Scene needs (follows refused does script) (unless_ended result)
