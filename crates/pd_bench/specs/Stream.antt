-- How a session comes from the pieces of what it reads.
use Rattle.std.specs.Prelude.{◌≡◌, ◌≢◌, ℕ, ◌≤◌, length, List, [], ◌∷◌, ◌++◌, Result, Option, Some}
use Rattle.std.specs.Str.Lines.{lines}
use Rattle.std.specs.Io.KnownBytes.{Appends, Consumes, IsAtEnd}
use Rattle.pd_port.specs.declared.entry.Entry.{Entry}
use Rattle.pd_scenario.specs.Scenarios.{ScenarioData}
use Rattle.pd_scenario.specs.Plan.{Plan}
use Rattle.pd_scenario.specs.Plans.{plan_of}
use Rattle.pd_edit_lines.specs.Grammar.{line_of}
use Rattle.pd_edit_lines.specs.declared.line.Line.{Line}
use Rattle.pd_edit_lines.specs.declared.fault.EditFault.{EditFault}
use Rattle.pd_run.specs.Cost.{Costs}
use Rattle.pd_run.specs.Shown.{Shows}
use Rattle.pd_device.specs.Device.{Begins}
use Rattle.pd_device.specs.declared.fault.BenchFault.{BenchFault}
use Rattle.pd_device.specs.declared.fault.BenchFault.TheVariants.{ReadFailed, Memory, ReaderTooLong}
use Rattle.pd_bench.specs.declared.tally.Tally.{Tally}
use Rattle.pd_bench.specs.declared.tally.Outcome.{Outcome}
use Rattle.pd_bench.specs.Cost.{LineCosts}
use Rattle.pd_bench.specs.Pending.{IsPending}
use Rattle.pd_bench.specs.Session.{Reply, counted, done_text}

-- the counts so far: the lines by what became of them, and the steps on the meter
pub record SoFar : Type 0 where
  pub tally : Tally
  pub meter : ℕ

abbrev pub so_far : Tally → ℕ → SoFar
so_far tally meter = record { tally = tally; meter = meter }

-- the reply to a line, and the scenario and the counts after it
abbrev pub Replied : Costs → ℕ → ScenarioData → SoFar → Result Line EditFault → List ℕ → ScenarioData → SoFar → Type 0
Replied costs n s t r reply s' t' = (outcome : Outcome) × Reply n s r reply s' outcome × (t'.tally ≡ counted t.tally outcome)
    × LineCosts costs s reply s' outcome t.meter t'.meter

-- the text that answers these lines, and the counts at the end
abbrev pub Answers : Costs → ℕ → ScenarioData → SoFar → List (List ℕ) → List ℕ → SoFar → Type 0
Answers costs n s t [] text final = (text ≡ done_text t.tally) × (final ≡ t)
Answers costs n s t (line ∷ more) text final = (reply : List ℕ) × (rest : List ℕ) × (s' : ScenarioData) × (t' : SoFar)
    × Replied costs n s t (line_of line) reply s' t' × (text ≡ reply ++ rest) × Answers costs n s' t' more rest final

-- the scenario has a run
abbrev pub HasRun : ScenarioData → Type 0
HasRun s = (entries : List (ℕ × Entry)) × Shows (plan_of s) entries

-- the runner has the run of this scenario
abbrev pub IsRunning : Option Plan → List (ℕ × Entry) → ScenarioData → Type 0
IsRunning plan entries s = (plan ≡ Some (plan_of s)) × Shows (plan_of s) entries

-- These bytes and the text out lead from one state to another: whatever answers what comes after them, answers, after
-- out, them and what comes after.
abbrev pub Leads : Costs → ℕ → ScenarioData → SoFar → List ℕ → List ℕ → List ℕ → ScenarioData → SoFar → List ℕ → Type 0
Leads costs n s t kept bytes out s' t' kept' = (line : List ℕ) → IsPending line kept → (line' : List ℕ) × IsPending line' kept'
    × ((more text : List ℕ) (final : SoFar) → Answers costs n s' t' (lines (line' ++ more)) text final →
    Answers costs n s t (lines (line ++ (bytes ++ more))) (out ++ text) final)

-- out begins a text that answers these bytes, whatever comes after them
abbrev pub LeadsPart : Costs → ℕ → ScenarioData → SoFar → List ℕ → List ℕ → List ℕ → Type 0
LeadsPart costs n s t kept bytes out =
    (line : List ℕ) → IsPending line kept → (more : List ℕ) → (text : List ℕ) × (final : SoFar)
    × Answers costs n s t (lines (line ++ (bytes ++ more))) text final × Begins out text

-- the text answers what is pending and then nothing
abbrev pub Ends : Costs → ℕ → ScenarioData → SoFar → List ℕ → List ℕ → SoFar → Type 0
Ends costs n s t kept out final = (line : List ℕ) → IsPending line kept → Answers costs n s t (lines line) out final

-- out begins such a text
abbrev pub EndsPart : Costs → ℕ → ScenarioData → SoFar → List ℕ → List ℕ → Type 0
EndsPart costs n s t kept out =
    (line : List ℕ) → IsPending line kept → (text : List ℕ) × (final : SoFar) × Answers costs n s t (lines line) text final
    × Begins out text

-- these bytes were taken in, and what they ask for was written
pub record Fed (costs : Costs) (n : ℕ) (taken taken' : Option (List ℕ)) (s : ScenarioData) (t : SoFar) (kept bytes : List ℕ)
    (s' : ScenarioData) (t' : SoFar) (kept' : List ℕ) : Type 0 where
  pub out : List ℕ
  pub appends : Appends taken taken' out
  pub leads : Leads costs n s t kept bytes out s' t' kept'

-- the writer failed after the first bytes of what these bytes ask for
pub record FedPart (costs : Costs) (n : ℕ) (taken taken' : Option (List ℕ)) (s : ScenarioData) (t : SoFar)
    (kept bytes : List ℕ) : Type 0 where
  pub out : List ℕ
  pub appends : Appends taken taken' out
  pub leads : LeadsPart costs n s t kept bytes out

-- the end was answered
pub record Finished (costs : Costs) (n : ℕ) (taken taken' : Option (List ℕ)) (s : ScenarioData) (t : SoFar) (kept : List ℕ)
    (final : SoFar) : Type 0 where
  pub out : List ℕ
  pub appends : Appends taken taken' out
  pub ends : Ends costs n s t kept out final

-- the writer failed after the first bytes of what the end asks for
pub record FinishedPart (costs : Costs) (n : ℕ) (taken taken' : Option (List ℕ)) (s : ScenarioData) (t : SoFar)
    (kept : List ℕ) : Type 0 where
  pub out : List ℕ
  pub appends : Appends taken taken' out
  pub ends : EndsPart costs n s t kept out

-- all was read, and what it asks for before the end was written
pub record TookIn (costs : Costs) (n : ℕ) (left left' taken taken' : Option (List ℕ)) (s : ScenarioData) (t : SoFar) (kept : List ℕ)
    (s' : ScenarioData) (t' : SoFar) (kept' : List ℕ) : Type 0 where
  pub bytes : List ℕ
  pub consumes : Consumes left left' bytes
  pub at_end : IsAtEnd left'
  pub few : length bytes ≤ 16777216
  pub fed : Fed costs n taken taken' s t kept bytes s' t' kept'

-- the session stopped after some bytes, and the first bytes of what they ask for were written
pub record TookPart (costs : Costs) (n : ℕ) (fault : BenchFault) (left left' taken taken' : Option (List ℕ)) (s : ScenarioData) (t : SoFar)
    (kept : List ℕ) : Type 0 where
  pub bytes : List ℕ
  pub consumes : Consumes left left' bytes
  pub few : length bytes ≤ 16777217
  pub read_failed : fault ≡ ReadFailed → length bytes ≤ 16777216
  pub long : fault ≡ ReaderTooLong → length bytes ≡ 16777217
  pub not_memory : fault ≢ Memory
  pub fed : FedPart costs n taken taken' s t kept bytes

-- so many bytes were read, and what they ask for was written
pub record Taking (costs : Costs) (n total : ℕ) (left left' taken taken' : Option (List ℕ)) (s : ScenarioData) (t : SoFar) (kept : List ℕ)
    (s' : ScenarioData) (t' : SoFar) (kept' : List ℕ) : Type 0 where
  pub bytes : List ℕ
  pub count : length bytes ≡ total
  pub consumes : Consumes left left' bytes
  pub fed : Fed costs n taken taken' s t kept bytes s' t' kept'
