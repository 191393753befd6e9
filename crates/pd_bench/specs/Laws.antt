-- What is proved of the definitions alone.
use Rattle.std.specs.Prelude.{◌≡◌, ℕ, false, List, ◌∷◌, ◌++◌, Result, Ok, Err}
use Rattle.pd_scenario.specs.Scenarios.{ScenarioData}
use Rattle.pd_edit.specs.Refusals.{edited}
use Rattle.pd_edit_lines.specs.Grammar.{line_of}
use Rattle.pd_edit_lines.specs.Numbers.{number_of}
use Rattle.pd_edit_lines.specs.declared.line.Line.{Line}
use Rattle.pd_edit_lines.specs.declared.line.Line.TheVariants as lines_read
use Rattle.pd_edit_lines.specs.declared.fault.EditFault.{EditFault}
use Rattle.pd_edit_lines.specs.declared.fault.EditFault.TheVariants as edit_faults
use Rattle.pd_bench.specs.declared.tally.Outcome.{Outcome}
use Rattle.pd_bench.specs.declared.tally.Outcome.TheVariants.{Refused}
use Rattle.pd_bench.specs.Session.{Replies, can_show, refused_text}

-- A refused line changes nothing: after its own reply, the replies and the outcomes are those of the other lines alone.
abbrev pub RefusedChangesNothing : Type 0
RefusedChangesNothing = (n : ℕ) (s : ScenarioData) (line : List ℕ) (more : List (List ℕ)) (text : List ℕ) (others : List Outcome)
    → Replies n s (line ∷ more) text (Refused ∷ others) → (number : ℕ) × (rest : List ℕ) × (text ≡ refused_text number ++ rest)
    × Replies n s more rest others

-- a line that is refused for its own sake, by a number: it can't be read, its edit is refused, or it shows a port that isn't there
abbrev pub RefusedAs : ℕ → ScenarioData → Result Line EditFault → ℕ → Type 0
RefusedAs n s (Ok lines_read.Skip) number = ⊥
RefusedAs n s (Ok (lines_read.Edit edit)) number = (fault : EditFault) × (edited n s edit ≡ Err fault) × (number ≡ number_of fault)
RefusedAs n s (Ok (lines_read.Show show)) number = (can_show n show ≡ false) × (number ≡ number_of edit_faults.NoSuchPort)
RefusedAs n s (Err fault) number = number ≡ number_of fault

-- such a line is always refused, by its number
abbrev pub RefusalsAreShown : Type 0
RefusalsAreShown =
    (n : ℕ) (s : ScenarioData) (line : List ℕ) (more : List (List ℕ)) (text : List ℕ) (outcomes : List Outcome) (number : ℕ) →
    RefusedAs n s (line_of line) number
    → Replies n s (line ∷ more) text outcomes → (rest : List ℕ) × (others : List Outcome) × (text ≡ refused_text number ++ rest)
    × (outcomes ≡ Refused ∷ others) × Replies n s more rest others
