-- A file of edit lines that the desk is to load.
use Rattle.std.specs.Prelude.{ℕ, ◌==◌, ◌||◌, Bool, false, List, [], ◌∷◌, ◌++◌, codes}
use Rattle.std.specs.Str.Lines.{lines}
use Rattle.pd_scenario.specs.Scenarios.{ScenarioData}
use Rattle.pd_text.specs.Fronts.{front_of_file}
use Rattle.pd_text.specs.declared.piece.Form.TheVariants.{Words}
use Rattle.pd_explain_text.specs.Told.{script_told}

-- a line that begins as the head of a table does, which no edit script has and each scenario
abbrev pub is_head : List ℕ → Bool
is_head [] = false
is_head (byte ∷ more) = byte == 91

abbrev pub has_head : List (List ℕ) → Bool
has_head [] = false
has_head (line ∷ more) = is_head line || has_head more

-- What is told where lines of a script are refused: why each of them is, with the scenario as the lines before it leave it, and that
-- none is loaded.
abbrev pub refusals_text : ℕ → ScenarioData → List ℕ → List ℕ → List ℕ
refusals_text n s file script =
    script_told (front_of_file Words file) n s 1 (lines script) ++ codes "not loaded: the file has lines that are refused\n"
