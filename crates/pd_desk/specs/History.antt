-- What the desk notes of the edits that it made, so that they can be taken back, made again and written down.
use Rattle.std.specs.Prelude.{◌≡◌, ℕ, Bool, true, false, nat_lt, List, [], ◌∷◌, ◌++◌, length, map, Ok}
use Rattle.std.specs.List.{flat_map}
use Rattle.pd_scenario.specs.Scenarios.{ScenarioData}
use Rattle.pd_edit.specs.Refusals.{edited}
use Rattle.pd_edit_lines.specs.Grammar.{line_of}
use Rattle.pd_edit_lines.specs.declared.edit.Edit.{Edit}
use Rattle.pd_edit_lines.specs.declared.line.Line.TheVariants as lines_read

-- an edit that was made: its line, and the scenario on its other side, with the number of the edit that led to that one
pub record StepData : Type 0 where
  pub scenario : ScenarioData
  pub number : ℕ
  pub line : List ℕ

-- the lines of edits that can't be taken back any more; the edits that can be, and those that were, each the latest last
pub record NotesData : Type 0 where
  pub older : List (List ℕ)
  pub earlier : List StepData
  pub later : List StepData

abbrev pub notes_data : List (List ℕ) → List StepData → List StepData → NotesData
notes_data older earlier later = record { older = older; earlier = earlier; later = later }

abbrev pub no_notes : NotesData
no_notes = notes_data [] [] []

-- the lines of the edits since the start, without those that were taken back
abbrev pub edit_lines : NotesData → List (List ℕ)
edit_lines notes = notes.older ++ map (λ (step : StepData). step.line) notes.earlier

-- they as an edit script
unfoldable pub script_text : NotesData → List ℕ
script_text notes = flat_map (λ line. line ++ 10 ∷ []) (edit_lines notes)

-- ---- one edit more

-- the oldest can't be taken back any more
abbrev pub shifted : List (List ℕ) → List StepData → StepData → List (List ℕ) × List StepData
shifted older [] step = (older, step ∷ [])
shifted older (oldest ∷ steps) step = (older ++ oldest.line ∷ [], steps ++ step ∷ [])

abbrev pub past_with : Bool → List (List ℕ) → List StepData → StepData → List (List ℕ) × List StepData
past_with true older earlier step = (older, earlier ++ step ∷ [])
past_with false older earlier step = shifted older earlier step

-- An edit can be taken back from now on, and the 99 before it; these others can be made again then.
abbrev pub noted : NotesData → StepData → List StepData → NotesData
noted notes step later =
    let past = past_with (nat_lt (length notes.earlier) 100) notes.older notes.earlier step in notes_data past.0 past.1 later

-- ---- what lines do

-- this line makes that scenario of this one
abbrev pub Makes : ℕ → ScenarioData → List ℕ → ScenarioData → Type 0
Makes n s line s' = (edit : Edit) × (line_of line ≡ Ok (lines_read.Edit edit)) × (edited n s edit ≡ Ok s')

-- these lines lead from one scenario to another
abbrev pub Lead : ℕ → ScenarioData → List (List ℕ) → ScenarioData → Type 0
Lead n s [] s' = s' ≡ s
Lead n s (line ∷ more) s' = (next : ScenarioData) × Makes n s line next × Lead n next more s'
