-- What is told of an edit script: why lines of it are refused, and what the scenario as it leaves that is warned of.
use Rattle.std.specs.Prelude.{◌≡◌, ◌⊎◌, ℕ, ◌+◌, nat_lt, Bool, true, false, List, [], ◌∷◌, ◌++◌, length, Option, Result, Ok, Err}
use Rattle.std.specs.Io.KnownBytes.{Appends}
use Rattle.pd_device.specs.Device.{WrotePart, one_more}
use Rattle.pd_device.specs.declared.fault.BenchFault.{BenchFault}
use Rattle.pd_device.specs.declared.fault.BenchFault.TheVariants.{ReadFailed, WriteFailed, Memory, ReaderTooLong}
use Rattle.pd_scenario.specs.Scenarios.{ScenarioData}
use Rattle.pd_scene.specs.Script.{after_line, at_line, followed, line_text}
use Rattle.pd_scene.specs.Made.{made}
use Rattle.pd_scene.specs.declared.made.MadeEdit.{MadeEdit}
use Rattle.pd_warn.specs.declared.warning.Warning.{Warning}
use Rattle.pd_warn.specs.Warnings.{AreWarnings}
use Rattle.pd_text.specs.Fronts.{FrontData}
use Rattle.pd_explain_text.specs.Warnings.{warnings_text}

-- ---- lines of a script

-- why lines of a script are refused, each against the scenario as edited by then; the first has this number
unfoldable pub script_told : FrontData → ℕ → ScenarioData → ℕ → List (List ℕ) → List ℕ
script_told edits n c number [] = []
script_told edits n c number (line ∷ lines) =
    line_text (at_line edits number) n c line ++ script_told edits n (after_line n c line) (number + 1) lines

-- all of that was written, and whether it is any; or some first bytes of it
abbrev pub TellsLines : FrontData → ℕ → ScenarioData → List (List ℕ) → Result Bool BenchFault → Option (List ℕ) → Option (List ℕ) → Type 0
TellsLines edits n s script (Ok any) old new =
    Appends old new (script_told edits n s 1 script) × (any ≡ nat_lt 0 (length (script_told edits n s 1 script)))
TellsLines edits n s script (Err fault) old new = WrotePart old new (script_told edits n s 1 script)

-- ---- warnings

-- what stands at the end: where it is wanted, what a scenario is warned of to which these edits led
abbrev pub TellsEnd : Bool → FrontData → FrontData → ℕ → ScenarioData → List MadeEdit → List ℕ → Type 0
TellsEnd false file edits n c made end = end ≡ []
TellsEnd true file edits n c made end = (ws : List Warning) × AreWarnings n c ws × (end ≡ warnings_text file edits made ws)

-- ---- all

-- all of it was written, of a scenario's file and a script; and whether a line is refused
pub record Told (warns : Bool) (file edits : FrontData) (n : ℕ) (s : ScenarioData) (script : List (List ℕ)) (any : Bool)
    (old new : Option (List ℕ)) : Type 0 where
  pub end : List ℕ
  pub tells_end : TellsEnd warns file edits n (followed n s script) (made n s 1 script) end
  pub appends : Appends old new (script_told edits n s 1 script ++ end)
  pub any_is : any ≡ nat_lt 0 (length (script_told edits n s 1 script))

-- some first bytes of it were written
abbrev pub Began : Bool → FrontData → FrontData → ℕ → ScenarioData → List (List ℕ) → Option (List ℕ) → Option (List ℕ) → Type 0
Began warns file edits n s script old new =
    WrotePart old new (script_told edits n s 1 script)
    ⊎ ((end : List ℕ) × TellsEnd warns file edits n (followed n s script) (made n s 1 script) end
    × WrotePart old new (script_told edits n s 1 script ++ end))

abbrev pub Tells : Bool → FrontData → FrontData → ℕ → ScenarioData → List (List ℕ) → Result Bool BenchFault
    → Option (List ℕ) → Option (List ℕ) → Type 0
Tells warns file edits n s script (Ok any) old new = Told warns file edits n s script any old new
Tells warns file edits n s script (Err fault) old new = Began warns file edits n s script old new

-- whether a write failed, by the count of failed calls; no read does
abbrev pub CountsTold : {X : Type 0} → Result X BenchFault → ℕ → ℕ → Type 0
CountsTold (Ok x) writes writes' = writes' ≡ writes
CountsTold (Err ReadFailed) writes writes' = ⊥
CountsTold (Err WriteFailed) writes writes' = writes' ≡ one_more writes
CountsTold (Err Memory) writes writes' = writes' ≡ writes
CountsTold (Err ReaderTooLong) writes writes' = ⊥
