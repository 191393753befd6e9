-- What is said of the refused lines of an edit script: this product's own form, docs/FORMATS.md, "Reasons". The answers to
-- lines are those of Session.antt of pd_bench.
use Rattle.std.specs.Prelude.{ℕ, ◌-◌, ◌==◌, ◌||◌, Bool, true, false, not, List, [], ◌∷◌, ◌++◌, length, take, codes}
use Rattle.std.specs.Prelude.{Result, Ok, Err, is_err, if◌then◌else◌}
use Rattle.std.specs.List.{flat_map}
use Rattle.pd_text.specs.declared.piece.Form.TheVariants.{Words}
use Rattle.pd_text.specs.declared.piece.Unit.TheVariants.{Plain}
use Rattle.pd_text.specs.Pieces.{PieceData, line_number, line_words, number, string}
use Rattle.pd_text.specs.Texts.{text_of_all}
use Rattle.pd_text.specs.Fronts.{FrontData, front_with, line_with, refusal_pieces}
use Rattle.pd_scenario.specs.Scenarios.{ScenarioData}
use Rattle.pd_scenario.specs.Limits.{is_port}
use Rattle.pd_edit_lines.specs.Grammar.{line_of}
use Rattle.pd_edit_lines.specs.Numbers.{number_of}
use Rattle.pd_edit_lines.specs.declared.fault.EditFault.{EditFault}
use Rattle.pd_edit_lines.specs.declared.fault.EditFault.TheVariants.{NoSuchPort}
use Rattle.pd_edit_lines.specs.declared.edit.Edit.{Edit}
use Rattle.pd_edit_lines.specs.declared.line.Line.{Line}
use Rattle.pd_edit_lines.specs.declared.line.Line.TheVariants as line_read
use Rattle.pd_edit_lines.specs.declared.line.Show.{Show}
use Rattle.pd_edit_lines.specs.declared.line.Show.TheVariants.{Transcript}
use Rattle.pd_edit.specs.Refusals.{edited}
use Rattle.pd_explain.specs.declared.place.Place.TheVariants as place
use Rattle.pd_explain.specs.declared.place.Reason.{Reason}
use Rattle.pd_explain.specs.Places.{reasons}
use Rattle.pd_explain.specs.Lines.{place_line, syntax_line}

-- where a line stands: the file, and the line's number, from 1
unfoldable pub at_line : FrontData → ℕ → FrontData
at_line file line = front_with file (number (codes ":") (codes "line") Plain line ∷ [])

-- that, and the number of a refusal
unfoldable pub refused_at : FrontData → EditFault → FrontData
refused_at at fault = front_with at (refusal_pieces (number_of fault))

-- a line for a refusal at a place
abbrev pub reason_text : FrontData → ℕ → ScenarioData → Reason → List ℕ
reason_text at n c reason = place_line (refused_at at reason.fault) n c reason.place

-- a line for each of the reasons
abbrev pub reasons_text : FrontData → ℕ → ScenarioData → List Reason → List ℕ
reasons_text at n c reasons = flat_map (reason_text at n c) reasons

-- ---- twenty of them

abbrev pub most_places : ℕ
most_places = 20

abbrev pub more_words : ℕ → List ℕ
more_words count = if count == 1 then codes " more place" else codes " more places"

abbrev pub more_pieces : ℕ → List PieceData
more_pieces count = line_number [] Plain count ∷ line_words (more_words count) ∷ []

unfoldable pub more_line : FrontData → ℕ → List ℕ
more_line at count = line_with at (string (codes ": ") (codes "sentence") (text_of_all Words (more_pieces count)) ∷ [])

-- how many more places there are, where there are any
abbrev pub more_text : FrontData → ℕ → List ℕ
more_text at count = if count == 0 then [] else more_line at count

unfoldable pub first_reasons_text : FrontData → ℕ → ScenarioData → List Reason → List ℕ
first_reasons_text at n c reasons =
    reasons_text at n c (take most_places reasons) ++ more_text at (length reasons - most_places)

-- ---- a line

-- an edit that is made needs no words
abbrev pub edit_text : FrontData → ℕ → ScenarioData → Edit → Result ScenarioData EditFault → List ℕ
edit_text at n c edit (Ok after) = []
edit_text at n c edit (Err fault) = first_reasons_text at n c (reasons n c edit)

-- a show is refused for its port alone
abbrev pub show_text : FrontData → ℕ → ScenarioData → Show → List ℕ
show_text at n c (Transcript port) =
    if is_port n port then [] else place_line (refused_at at NoSuchPort) n c (place.Port port)
show_text at n c _ = []

abbrev pub read_text : FrontData → ℕ → ScenarioData → List ℕ → Result Line EditFault → List ℕ
read_text at n c line (Ok line_read.Skip) = []
read_text at n c line (Ok (line_read.Edit edit)) = edit_text at n c edit (edited n c edit)
read_text at n c line (Ok (line_read.Show show)) = show_text at n c show
read_text at n c line (Err fault) = syntax_line (refused_at at fault) line

-- why a line is refused
unfoldable pub line_text : FrontData → ℕ → ScenarioData → List ℕ → List ℕ
line_text at n c line = read_text at n c line (line_of line)

-- the scenario after a line
abbrev pub kept_or : ScenarioData → Result ScenarioData EditFault → ScenarioData
kept_or c (Ok after) = after
kept_or c (Err fault) = c

abbrev pub after_read : ℕ → ScenarioData → Result Line EditFault → ScenarioData
after_read n c (Ok (line_read.Edit edit)) = kept_or c (edited n c edit)
after_read n c _ = c

unfoldable pub after_line : ℕ → ScenarioData → List ℕ → ScenarioData
after_line n c line = after_read n c (line_of line)

-- the scenario after the lines of a script
unfoldable pub followed : ℕ → ScenarioData → List (List ℕ) → ScenarioData
followed n c [] = c
followed n c (line ∷ lines) = followed n (after_line n c line) lines

-- ---- which lines are refused

-- a show is refused where it is of a port that isn't there
abbrev pub is_show_refused : ℕ → Show → Bool
is_show_refused n (Transcript port) = not (is_port n port)
is_show_refused n _ = false

abbrev pub is_read_refused : ℕ → ScenarioData → Result Line EditFault → Bool
is_read_refused n c (Ok line_read.Skip) = false
is_read_refused n c (Ok (line_read.Edit edit)) = is_err (edited n c edit)
is_read_refused n c (Ok (line_read.Show show)) = is_show_refused n show
is_read_refused n c (Err fault) = true

unfoldable pub is_line_refused : ℕ → ScenarioData → List ℕ → Bool
is_line_refused n c line = is_read_refused n c (line_of line)

-- one of the lines is refused, each held against the scenario as the lines before it left it
unfoldable pub is_any_refused : ℕ → ScenarioData → List (List ℕ) → Bool
is_any_refused n c [] = false
is_any_refused n c (line ∷ lines) = is_line_refused n c line || is_any_refused n (after_line n c line) lines
