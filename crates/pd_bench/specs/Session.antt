-- What a session writes for the bytes that it reads.
use Rattle.std.specs.Prelude.{IfOk, IfSome, ◌≡◌, ℕ, ◌+◌, ◌≤◌, ◌⊎◌, Bool, true, false, length, List, [], ◌∷◌, ◌++◌, fold, Result, Ok, Err}
use Rattle.std.specs.Prelude.{Option, Some, codes, decimal}
use Rattle.std.specs.Str.Lines.{lines}
use Rattle.std.specs.Io.KnownBytes.{Appends, Consumes, IsAtEnd}
use Rattle.pd_port.specs.declared.entry.Entry.{Entry}
use Rattle.pd_scenario.specs.Scenarios.{ScenarioData}
use Rattle.pd_scenario.specs.Limits.{is_port}
use Rattle.pd_scenario.specs.Plan.{Plan}
use Rattle.pd_scenario.specs.Plans.{plan_of}
use Rattle.pd_edit_lines.specs.Grammar.{line_of}
use Rattle.pd_edit.specs.Refusals.{edited}
use Rattle.pd_edit_lines.specs.Numbers as edit_numbers
use Rattle.pd_edit_lines.specs.declared.line.Line.{Line}
use Rattle.pd_edit_lines.specs.declared.line.Line.TheVariants as lines_read
use Rattle.pd_edit_lines.specs.declared.line.Show.{Show}
use Rattle.pd_edit_lines.specs.declared.line.Show.TheVariants.{Transcript, Contracts, Faults, Margins}
use Rattle.pd_edit_lines.specs.declared.fault.EditFault.{EditFault}
use Rattle.pd_edit_lines.specs.declared.fault.EditFault.TheVariants as edit_faults
use Rattle.pd_run.specs.Shown.{Shows}
use Rattle.pd_device.specs.Device.{Begins, one_more}
use Rattle.pd_report.specs.Report.{transcript_text}
use Rattle.pd_report.specs.ContractLines.{contracts_text}
use Rattle.pd_report.specs.FaultLines.{faults_text}
use Rattle.pd_report.specs.Margins.{margins_text}
use Rattle.pd_device.specs.declared.fault.BenchFault.{BenchFault}
use Rattle.pd_device.specs.declared.fault.BenchFault.TheVariants.{ReadFailed, WriteFailed, Memory, ReaderTooLong}
use Rattle.pd_bench.specs.declared.tally.Tally.{Tally}
use Rattle.pd_bench.specs.declared.tally.Outcome.{Outcome}
use Rattle.pd_bench.specs.declared.tally.Outcome.TheVariants.{Skipped, Accepted, Refused, Shown}

-- ---- the texts

-- the reply to an edit that is made
abbrev pub ok_text : List ℕ
ok_text = codes "ok\n"

abbrev pub refused_text : ℕ → List ℕ
refused_text number = codes "refused " ++ decimal number ++ codes "\n"

abbrev pub done_text : Tally → List ℕ
done_text t =
    codes "done " ++ decimal t.edits ++ codes " edits " ++ decimal t.refused ++ codes " refused " ++ decimal t.shows ++ codes " shows\n"

-- ---- the counts

abbrev pub no_lines : Tally
no_lines = record { edits = 0; refused = 0; shows = 0 }

abbrev pub counted : Tally → Outcome → Tally
counted t Skipped = t
counted t Accepted = record t { edits = t.edits + 1 }
counted t Refused = record t { refused = t.refused + 1 }
counted t Shown = record t { shows = t.shows + 1 }

-- how many lines were answered
abbrev pub answered : Tally → ℕ
answered t = t.edits + t.refused + t.shows

-- ---- the reply to one line, and the scenario after it

-- the line is refused, and changes nothing
abbrev pub IsRefused : ℕ → ScenarioData → List ℕ → ScenarioData → Outcome → Type 0
IsRefused number s reply s' outcome = (reply ≡ refused_text number) × (s' ≡ s) × (outcome ≡ Refused)

-- an edit: its refusal, or ok with the scenario after it, or want of memory
abbrev pub EditReply : ScenarioData → Result ScenarioData EditFault → List ℕ → ScenarioData → Outcome → Type 0
EditReply s (Err fault) reply s' outcome = IsRefused (edit_numbers.number_of fault) s reply s' outcome
EditReply s (Ok after) reply s' outcome =
    ((reply ≡ ok_text) × (s' ≡ after) × (outcome ≡ Accepted)) ⊎ IsRefused (edit_numbers.number_of edit_faults.Memory) s reply s' outcome

-- the text of a show, over the entries of a run of this plan
abbrev pub show_text : Show → Plan → List (ℕ × Entry) → List ℕ
show_text (Transcript port) plan entries = transcript_text port entries
show_text Contracts plan entries = contracts_text entries
show_text Faults plan entries = faults_text entries
show_text Margins plan entries = margins_text plan entries

-- a show is of a port that is there, or of all ports
abbrev pub can_show : ℕ → Show → Bool
can_show n (Transcript port) = is_port n port
can_show n _ = true

-- a show: its text over the scenario's run, where there is such a port
abbrev pub ShowReply : Bool → Show → ScenarioData → List ℕ → ScenarioData → Outcome → Type 0
ShowReply true show s reply s' outcome =
    (entries : List (ℕ × Entry)) × Shows (plan_of s) entries × (reply ≡ show_text show (plan_of s) entries) × (s' ≡ s) × (outcome ≡ Shown)
ShowReply false show s reply s' outcome = IsRefused (edit_numbers.number_of edit_faults.NoSuchPort) s reply s' outcome

abbrev pub Reply : ℕ → ScenarioData → Result Line EditFault → List ℕ → ScenarioData → Outcome → Type 0
Reply n s (Ok lines_read.Skip) reply s' outcome = (reply ≡ []) × (s' ≡ s) × (outcome ≡ Skipped)
Reply n s (Ok (lines_read.Edit edit)) reply s' outcome = EditReply s (edited n s edit) reply s' outcome
Reply n s (Ok (lines_read.Show show)) reply s' outcome = ShowReply (can_show n show) show s reply s' outcome
Reply n s (Err fault) reply s' outcome = IsRefused (edit_numbers.number_of fault) s reply s' outcome

-- ---- the whole session

-- the replies to these lines in their order, each with the scenario as edited by then, and what became of each line
abbrev pub Replies : ℕ → ScenarioData → List (List ℕ) → List ℕ → List Outcome → Type 0
Replies n s [] text outcomes = (text ≡ []) × (outcomes ≡ [])
Replies n s (line ∷ more) text outcomes =
    (reply : List ℕ) × (rest : List ℕ) × (s' : ScenarioData) × (outcome : Outcome) × (others : List Outcome)
    × Reply n s (line_of line) reply s' outcome × (text ≡ reply ++ rest) × (outcomes ≡ outcome ∷ others) × Replies n s' more rest others

-- the text of a session over these bytes, and its counts
pub record Session (n : ℕ) (s : ScenarioData) (bytes text : List ℕ) (tally : Tally) : Type 0 where
  pub replies : List ℕ
  pub outcomes : List Outcome
  pub are_replies : Replies n s (lines bytes) replies outcomes
  pub tally_is : tally ≡ fold counted no_lines outcomes
  pub text_is : text ≡ replies ++ done_text tally

-- the first bytes of such a text
pub record BeginsSession (n : ℕ) (s : ScenarioData) (bytes out : List ℕ) : Type 0 where
  pub text : List ℕ
  pub tally : Tally
  pub session : Session n s bytes text tally
  pub begins : Begins out text

-- ---- what a session reads and writes, by its answer

-- all that the reader has left was read, and the text of a session over it was written
pub record SessionDone (n : ℕ) (left left' taken taken' : Option (List ℕ)) (s : ScenarioData) (tally : Tally) : Type 0 where
  pub bytes : List ℕ
  pub consumes : Consumes left left' bytes
  pub at_end : IsAtEnd left'
  pub few : length bytes ≤ 16777216
  pub out : List ℕ
  pub appends : Appends taken taken' out
  pub session : Session n s bytes out tally

-- so many bytes were read, and what was written begins the text of a session over them, whatever comes after them
pub record SessionStopped (n : ℕ) (left left' taken taken' : Option (List ℕ)) (s : ScenarioData) (count : ℕ) : Type 0 where
  pub bytes : List ℕ
  pub consumes : Consumes left left' bytes
  pub counts : length bytes ≡ count
  pub out : List ℕ
  pub appends : Appends taken taken' out
  pub begins : (more : List ℕ) → BeginsSession n s (bytes ++ more) out

-- some bytes were read, and what was written begins the text of a session over them
pub record SessionCut (n : ℕ) (left left' taken taken' : Option (List ℕ)) (s : ScenarioData) : Type 0 where
  pub bytes : List ℕ
  pub consumes : Consumes left left' bytes
  pub few : length bytes ≤ 16777217
  pub out : List ℕ
  pub appends : Appends taken taken' out
  pub begins : BeginsSession n s bytes out

-- Without memory for the first run nothing is read or written.
abbrev pub SessionEnds : ℕ → Result Tally BenchFault → Option (List ℕ) → Option (List ℕ) → Option (List ℕ) → Option (List ℕ) →
    ScenarioData → Type 0
SessionEnds n (Ok tally) left left' taken taken' s = SessionDone n left left' taken taken' s tally
SessionEnds n (Err ReadFailed) left left' taken taken' s =
    (count : ℕ) × (count ≤ 16777216) × SessionStopped n left left' taken taken' s count
SessionEnds n (Err WriteFailed) left left' taken taken' s = SessionCut n left left' taken taken' s
SessionEnds n (Err Memory) left left' taken taken' s = (left' ≡ left) × (taken' ≡ taken)
SessionEnds n (Err ReaderTooLong) left left' taken taken' s = SessionStopped n left left' taken taken' s 16777217

-- which device failed, by the counts of failed reads and writes
abbrev pub CountsFault : {X : Type 0} → Result X BenchFault → ℕ → ℕ → ℕ → ℕ → Type 0
CountsFault (Ok x) reads reads' writes writes' = (reads' ≡ reads) × (writes' ≡ writes)
CountsFault (Err ReadFailed) reads reads' writes writes' = (reads' ≡ one_more reads) × (writes' ≡ writes)
CountsFault (Err WriteFailed) reads reads' writes writes' = (reads' ≡ reads) × (writes' ≡ one_more writes)
CountsFault (Err Memory) reads reads' writes writes' = (reads' ≡ reads) × (writes' ≡ writes)
CountsFault (Err ReaderTooLong) reads reads' writes writes' = (reads' ≡ reads) × (writes' ≡ writes)

-- over devices that tell their bytes: what was written is the text for all that the reader had
abbrev pub WritesSession : ℕ → Result Tally BenchFault → Option (List ℕ) → Option (List ℕ) → Option (List ℕ) → ScenarioData → Type 0
WritesSession n result left taken taken' s =
    IfOk result
    (λ tally. IfSome left
    (λ bytes. IfSome taken (λ before. (out : List ℕ) × Session n s bytes out tally × (taken' ≡ Some (before ++ out)))))
