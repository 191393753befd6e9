-- A line of an edit script that is refused leaves the scenario as it is.
use Rattle.std.proofs.Common.{◌≡◌, ℕ, List, ◌∷◌, refl}
use Rattle.std.specs.Prelude.{Result, Ok, Err}
use Rattle.pd_scenario.specs.Scenarios.{ScenarioData}
use Rattle.pd_edit_lines.specs.Grammar.{line_of}
use Rattle.pd_edit_lines.specs.declared.edit.Edit.{Edit}
use Rattle.pd_edit_lines.specs.declared.fault.EditFault.{EditFault}
use Rattle.pd_edit_lines.specs.declared.line.Line.{Line}
use Rattle.pd_edit_lines.specs.declared.line.Line.TheVariants as line_read
use Rattle.pd_edit.specs.Refusals.{edited}
use Rattle.pd_scene.specs.Script.{after_line, after_read, edit_text, kept_or, line_text, read_text}
use Rattle.pd_text.specs.Fronts.{FrontData}

edit_stays : (at : FrontData) (n : ℕ) (c : ScenarioData) (edit : Edit) (outcome : Result ScenarioData EditFault) (byte : ℕ)
    (more : List ℕ) → edit_text at n c edit outcome ≡ byte ∷ more → kept_or c outcome ≡ c
edit_stays at n c edit (Ok after) byte more e = absurd (cc)
edit_stays at n c edit (Err fault) byte more e = refl

read_stays : (at : FrontData) (n : ℕ) (c : ScenarioData) (line : List ℕ) (read : Result Line EditFault) (byte : ℕ) (more : List ℕ) →
    read_text at n c line read ≡ byte ∷ more → after_read n c read ≡ c
read_stays at n c line (Ok line_read.Skip) byte more e = refl
read_stays at n c line (Ok (line_read.Edit edit)) byte more e = edit_stays at n c edit (edited n c edit) byte more e
read_stays at n c line (Ok (line_read.Show show)) byte more e = refl
read_stays at n c line (Err fault) byte more e = refl

-- a line of which something is said
pub said_stays : (at : FrontData) (n : ℕ) (c : ScenarioData) (line : List ℕ) (byte : ℕ) (more : List ℕ) →
    line_text at n c line ≡ byte ∷ more → after_line n c line ≡ c
unfolding line_text after_line
said_stays at n c line byte more e = read_stays at n c line (line_of line) byte more e
