-- A text is read as one scenario.
use Rattle.std.proofs.Common.{◌≡◌, ℕ, List, Ok, sym, ap, ◌∙◌}
use Rattle.pd_scenario.specs.Scenarios.{ScenarioData}
use Rattle.pd_scenario_text.specs.File.{members_of}
use Rattle.pd_scenario_text.specs.Reading.{IsTextOf, Reads, reading}
use Rattle.pd_scenario_text.specs.declared.file.ScenarioFile.{ScenarioFile}

pub same_scenario : (n : ℕ) (text : List ℕ) (file : ScenarioFile) (a b : ScenarioData) → IsTextOf text (members_of file)
    → reading n (members_of file) ≡ Ok b → Reads n text (Ok a) → a ≡ b
same_scenario n text file a b is read (other, other_is, other_read) =
    let both = sym other_is.parsed ∙ is.parsed in
    let one : other ≡ members_of file = cc in
    let same = sym other_read ∙ ap (reading n) one ∙ read in
    let found : a ≡ b = cc in found
