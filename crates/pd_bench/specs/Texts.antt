-- What a session over texts comes to.
use Rattle.std.specs.Prelude.{◌≡◌, ◌≢◌, ℕ, ◌≤◌, List, ◌++◌, Result, Ok, Err, Option, None, Some, IfSome}
use Rattle.std.specs.Io.KnownBytes.{Appends}
use Rattle.pd_scenario.specs.Scenarios.{ScenarioData}
use Rattle.pd_scenario_text.specs.Texts.{IsRefused, IsScenarioText}
use Rattle.pd_device.specs.Device.{one_more}
use Rattle.pd_device.specs.declared.fault.BenchFault.TheVariants.{ReadFailed, WriteFailed}
use Rattle.pd_bench.specs.declared.tally.Tally.{Tally}
use Rattle.pd_run.specs.Cost.{Costs}
use Rattle.pd_bench.specs.Session.{Session, SessionEnds}
use Rattle.pd_bench.specs.Cost.{SessionCosts}
use Rattle.pd_bench.specs.declared.texts.RunFault.{RunFault}
use Rattle.pd_bench.specs.declared.texts.RunFault.TheVariants as faults

-- out is what a session over these edits writes, for the scenario of the text
pub record IsAnswer (text edits out : List ℕ) (tally : Tally) : Type 0 where
  pub ports : ℕ
  pub scenario : ScenarioData
  pub is_scenario : IsScenarioText text ports scenario
  pub session : Session ports scenario edits out tally

abbrev pub IsAnswered : List ℕ → List ℕ → List ℕ → Type 0
IsAnswered text edits out = (tally : Tally) × IsAnswer text edits out tally

-- where the writer tells its bytes, they grew by that text
abbrev pub WritesAnswer : List ℕ → List ℕ → Tally → Option (List ℕ) → Option (List ℕ) → Type 0
WritesAnswer text edits tally taken taken' =
    IfSome taken (λ before. (out : List ℕ) × IsAnswer text edits out tally × (taken' ≡ Some (before ++ out)))

-- Where the text is refused, nothing is written; where the session fails, it ends as sessions over these edits do. Edits that
-- are there need no device, so no read of them fails.
abbrev pub RunsText : Result Tally RunFault → List ℕ → List ℕ → Option (List ℕ) → Option (List ℕ) → Type 0
RunsText (Ok tally) text edits taken taken' = WritesAnswer text edits tally taken taken'
RunsText (Err (faults.Scenario fault)) text edits taken taken' = IsRefused text fault × (taken' ≡ taken)
RunsText (Err (faults.Session fault)) text edits taken taken' =
    (fault ≢ ReadFailed) × (n : ℕ) × (s : ScenarioData) × (left' : Option (List ℕ))
    × IsScenarioText text n s × SessionEnds n (Err fault) (Some edits) left' taken taken' s

-- out is what a session over these edits writes, and the meter has gone along it with a runner that stood for no plan before
pub record IsPaidAnswer (costs : Costs) (text edits out : List ℕ) (tally : Tally) (before after : ℕ) : Type 0 where
  pub answer : IsAnswer text edits out tally
  pub cost : SessionCosts costs answer.ports None answer.scenario edits out tally answer.session before after

-- What a run over texts costs: the first run and each edit that is made; nothing where the text is refused; and some steps,
-- which aren't told, where the session fails.
abbrev pub RunCosts : Costs → Result Tally RunFault → List ℕ → List ℕ → Option (List ℕ) → Option (List ℕ) → ℕ → ℕ → Type 0
RunCosts costs (Ok tally) text edits taken taken' before after =
    (out : List ℕ) × Appends taken taken' out × IsPaidAnswer costs text edits out tally before after
RunCosts costs (Err (faults.Scenario fault)) text edits taken taken' before after = after ≡ before
RunCosts costs (Err (faults.Session fault)) text edits taken taken' before after = before ≤ after

-- the count of failed writes says whether one failed
abbrev pub CountsWrites : Result Tally RunFault → ℕ → ℕ → Type 0
CountsWrites (Err (faults.Session WriteFailed)) writes writes' = writes' ≡ one_more writes
CountsWrites answer writes writes' = writes' ≡ writes
