-- What a scenario is warned of, as the edits of a script leave it: docs/FORMATS.md, "Warnings".
use Rattle.std.specs.Prelude.{◌≡◌, ℕ, true, List, [], ◌∷◌, ◌++◌, codes, Option, None, Some}
use Rattle.std.specs.List.{flat_map}
use Rattle.pd_text.specs.Pieces.{flag, string}
use Rattle.pd_text.specs.Fronts.{FrontData, front_with, line_with}
use Rattle.pd_scenario.specs.Scenarios.{ScenarioData}
use Rattle.pd_scene.specs.Script.{at_line}
use Rattle.pd_scene.specs.declared.made.MadeEdit.{MadeEdit}
use Rattle.pd_warn.specs.declared.warning.Warning.{Warning}
use Rattle.pd_warn.specs.Warnings.{AreWarnings}
use Rattle.pd_explain_text.specs.LastLine.{last_line}
use Rattle.pd_explain_text.specs.Sentences.{sentence}

-- where what is warned of was made: a line of the edit script, else the scenario's file
abbrev pub place_front : FrontData → FrontData → Option ℕ → FrontData
place_front file edits None = front_with file []
place_front file edits (Some line) = at_line edits line

-- a line that warns of something, in these words
unfoldable pub warning_told : FrontData → List ℕ → List ℕ
warning_told front words =
    line_with front (flag (codes ": warning: ") [] (codes "warning") true ∷ string [] (codes "sentence") words ∷ [])

abbrev pub warning_line : FrontData → Warning → List ℕ
warning_line front w = warning_told front (sentence w)

-- a line for each warning of a scenario that these edits of a script led to
abbrev pub warnings_text : FrontData → FrontData → List MadeEdit → List Warning → List ℕ
warnings_text file edits made ws = flat_map (λ w. warning_line (place_front file edits (last_line w made)) w) ws

-- the warnings of a scenario of n ports, to which these edits led, stand behind what stood there
abbrev pub TellsWarnings : FrontData → FrontData → List MadeEdit → ℕ → ScenarioData → List ℕ → List ℕ → Type 0
TellsWarnings file edits made n s old new =
    (ws : List Warning) × AreWarnings n s ws × (new ≡ old ++ warnings_text file edits made ws)
