-- What is told of an edit script, for a scenario.
use Rattle.std.specs.Prelude.{ℕ, Bool, List, Option, Result}
use Rattle.std.specs.Str.Lines.{lines}
use Rattle.pd_device.specs.declared.fault.BenchFault.{BenchFault}
use Rattle.pd_scenario.specs.Scenarios.{ScenarioData}
use Rattle.pd_explain_text.specs.Told.{CountsTold, Tells}
use Rattle.pd_text.specs.Fronts.{front_of_file}
use Rattle.pd_text.specs.declared.piece.Form.{Form}

-- all that is told of the script for a scenario of n ports, and whether a line is refused; or some first bytes of it, where memory is
-- wanting or the writer failed; and the count of failed writes says whether one failed
pub record ExplainsScene (warns : Bool) (form : Form) (file edits script : List ℕ) (n : ℕ) (s : ScenarioData)
    (result : Result Bool BenchFault) (taken taken' : Option (List ℕ)) (writes writes' : ℕ) : Type 0 where
  pub text : Tells warns (front_of_file form file) (front_of_file form edits) n s (lines script) result taken taken'
  pub counts : CountsTold result writes writes'
