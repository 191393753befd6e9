-- Which edits the lines of a script make: those that aren't refused, each with the number of its line.
use Rattle.std.specs.Prelude.{ℕ, ◌+◌, List, [], ◌∷◌, ◌++◌, Result, Ok, Err}
use Rattle.pd_scenario.specs.Scenarios.{ScenarioData}
use Rattle.pd_edit_lines.specs.Grammar.{line_of}
use Rattle.pd_edit_lines.specs.declared.fault.EditFault.{EditFault}
use Rattle.pd_edit_lines.specs.declared.edit.Edit.{Edit}
use Rattle.pd_edit_lines.specs.declared.line.Line.{Line}
use Rattle.pd_edit_lines.specs.declared.line.Line.TheVariants as line_read
use Rattle.pd_edit.specs.Refusals.{edited}
use Rattle.pd_scene.specs.declared.made.MadeEdit.{MadeEdit}
use Rattle.pd_scene.specs.Script.{after_line}

-- an edit of a line, where it isn't refused
abbrev pub edit_made : ℕ → Edit → Result ScenarioData EditFault → List MadeEdit
edit_made number edit (Ok after) = record { line = number; edit = edit } ∷ []
edit_made number edit (Err fault) = []

abbrev pub read_made : ℕ → ℕ → ScenarioData → Result Line EditFault → List MadeEdit
read_made number n c (Ok (line_read.Edit edit)) = edit_made number edit (edited n c edit)
read_made number n c _ = []

unfoldable pub line_made : ℕ → ℕ → ScenarioData → List ℕ → List MadeEdit
line_made number n c line = read_made number n c (line_of line)

-- the edits of all lines, each made on the scenario as edited by then; the first line has this number
unfoldable pub made : ℕ → ScenarioData → ℕ → List (List ℕ) → List MadeEdit
made n c number [] = []
made n c number (line ∷ lines) = line_made number n c line ++ made n (after_line n c line) (number + 1) lines
