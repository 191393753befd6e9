-- What is written for a shown run.
use Rattle.std.specs.Prelude.{◌≡◌, ℕ, List, ◌++◌, Option, Result, Ok, Err, MatchResult}
use Rattle.std.specs.Io.KnownBytes.{Appends}
use Rattle.pd_device.specs.Device.{WrotePart, one_more}
use Rattle.pd_device.specs.declared.fault.BenchFault.{BenchFault}
use Rattle.pd_device.specs.declared.fault.BenchFault.TheVariants.{ReadFailed, WriteFailed, Memory, ReaderTooLong}
use Rattle.pd_scenario.specs.Plan.{Plan}
use Rattle.pd_run.specs.Run.{Move}
use Rattle.pd_run.specs.Live.{RunsTo}
use Rattle.pd_run.specs.Shown.{SafeRun}
use Rattle.pd_show.specs.declared.choice.Choice.{Choice}
use Rattle.pd_show.specs.Lines.{lines_of}
use Rattle.pd_show.specs.Pages.{PageData, head, text_from}

-- the text of these moves of a plan, in the form that is chosen
abbrev pub show_text : Plan → Choice → List Move → List ℕ
show_text plan choice moves = head choice.form ++ text_from choice.form 0 (lines_of plan choice moves)

-- the text of the plan's run, which is safe, was written
pub record WroteRun (plan : Plan) (choice : Choice) (old new : Option (List ℕ)) : Type 0 where
  pub moves : List Move
  pub safe : SafeRun plan moves
  pub appends : Appends old new (show_text plan choice moves)

-- the first bytes of the text of these moves were written, which are a run as far as it has come
pub record BeganRun (plan : Plan) (choice : Choice) (old new : Option (List ℕ)) : Type 0 where
  pub moves : List Move
  pub runs : RunsTo plan moves
  pub part : WrotePart old new (show_text plan choice moves)

abbrev pub ShowsRun : {X : Type 0} → Plan → Choice → Result X BenchFault → Option (List ℕ) → Option (List ℕ) → Type 0
ShowsRun plan choice result old new = MatchResult result (λ _. WroteRun plan choice old new) (λ _. BeganRun plan choice old new)

-- whether a write failed, by the count of failed calls; no read does
abbrev pub CountsShow : {X : Type 0} → Result X BenchFault → ℕ → ℕ → Type 0
CountsShow (Ok x) writes writes' = writes' ≡ writes
CountsShow (Err ReadFailed) writes writes' = ⊥
CountsShow (Err WriteFailed) writes writes' = writes' ≡ one_more writes
CountsShow (Err Memory) writes writes' = writes' ≡ writes
CountsShow (Err ReaderTooLong) writes writes' = ⊥

-- a page is what was written of it, and what is left
pub record Passed (old new : Option (List ℕ)) (page page' : PageData) : Type 0 where
  pub out : List ℕ
  pub appends : Appends old new out
  pub text_is : page.text ≡ out ++ page'.text
  pub before_is : page'.before ≡ page.before
