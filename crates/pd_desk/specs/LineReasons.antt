-- Why a line of a session is refused, for a reader at the keyboard: docs/FORMATS.md, "Reasons", without the place of the line.
use Rattle.std.specs.Prelude.{ℕ, nat_lt, List, [], ◌∷◌, ◌++◌, length, codes, Option, Some, None, Result, Ok, Err, if◌then◌else◌}
use Rattle.std.specs.List.{flat_map}
use Rattle.pd_scenario.specs.Scenarios.{ScenarioData}
use Rattle.pd_scenario.specs.Limits.{is_port}
use Rattle.pd_edit_lines.specs.Grammar.{line_of}
use Rattle.pd_edit_lines.specs.Words.{words}
use Rattle.pd_edit_lines.specs.declared.fault.EditFault.{EditFault}
use Rattle.pd_edit_lines.specs.declared.edit.Edit.{Edit}
use Rattle.pd_edit_lines.specs.declared.line.Line.{Line}
use Rattle.pd_edit_lines.specs.declared.line.Line.TheVariants as line_read
use Rattle.pd_edit_lines.specs.declared.line.Show.{Show}
use Rattle.pd_edit_lines.specs.declared.line.Show.TheVariants.{Transcript}
use Rattle.pd_edit.specs.Refusals.{edited}
use Rattle.pd_explain.specs.declared.place.Place.TheVariants as place
use Rattle.pd_explain.specs.declared.place.Reason.{Reason}
use Rattle.pd_explain.specs.Places.{reasons}
use Rattle.pd_explain.specs.Lines.{place_line, syntax_line}
use Rattle.pd_text.specs.declared.piece.Form.TheVariants.{Words}
use Rattle.pd_text.specs.Fronts.{FrontData, front_of_file}
use Rattle.pd_desk.specs.Commands.{meant}

-- nothing stands before a sentence: its line was written just before
unfoldable pub bare : FrontData
bare = front_of_file Words []

-- An edit that is made needs no words.
abbrev pub edit_reasons : ℕ → ScenarioData → Edit → Result ScenarioData EditFault → List ℕ
edit_reasons n c edit (Ok after) = []
edit_reasons n c edit (Err fault) = flat_map (λ (reason : Reason). place_line bare n c reason.place) (reasons n c edit)

-- A show is refused for its port alone.
abbrev pub show_reasons : ℕ → ScenarioData → Show → List ℕ
show_reasons n c (Transcript port) = if is_port n port then [] else place_line bare n c (place.Port port)
show_reasons n c _ = []

-- a command of the desk's own that is meant, or else the word at which the line stops
abbrev pub meant_or_stops : List ℕ → Option (List ℕ) → List ℕ
meant_or_stops line (Some command) = codes "did you mean " ++ (command ++ codes "?\n")
meant_or_stops line None = syntax_line bare line

abbrev pub meant_first : List (List ℕ) → Option (List ℕ)
meant_first [] = None
meant_first (word ∷ more) = meant word

-- of a longer line the end isn't kept
unfoldable pub no_line_text : List ℕ → List ℕ
no_line_text line =
    if nat_lt 256 (length line) then codes "the line has more than 256 bytes\n" else meant_or_stops line (meant_first (words line))

abbrev pub reasons_of : ℕ → ScenarioData → List ℕ → Result Line EditFault → List ℕ
reasons_of n c line (Ok line_read.Skip) = []
reasons_of n c line (Ok (line_read.Edit edit)) = edit_reasons n c edit (edited n c edit)
reasons_of n c line (Ok (line_read.Show show)) = show_reasons n c show
reasons_of n c line (Err fault) = no_line_text line

-- why a line is refused, with the scenario as it stands
unfoldable pub reasons_text : ℕ → ScenarioData → List ℕ → List ℕ
reasons_text n c line = reasons_of n c line (line_of line)
