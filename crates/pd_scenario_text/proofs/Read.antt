-- What a file answers, each of its texts does.
use Rattle.std.proofs.Common.{◌≡◌, ℕ, List, Result, Ok, Err, inr}
use Rattle.pd_scenario.specs.Scenarios.{ScenarioData}
use Rattle.pd_scenario_tables.specs.declared.fault.ScenarioFault.{ScenarioFault}
use Rattle.pd_scenario_tables.specs.Ports.{counted}
use Rattle.pd_scenario_text.specs.declared.file.ScenarioFile.{ScenarioFile}
use Rattle.pd_scenario_text.specs.File.{members_of}
use Rattle.pd_scenario_text.specs.Reading.{IsTextOf, Answers, Reads, reading}
use Rattle.pd_scenario_text.proofs.Answered.{read_answer, not_toml}
use Rattle.pd_scenario_text.specs.Texts.{IsScenarioText, IsRefused}

reads_of : (n : ℕ) (text : List ℕ) (file : ScenarioFile) (answer : Result ScenarioData ScenarioFault) → IsTextOf text (members_of file)
    → Answers answer (reading n (members_of file)) → Reads n text answer
reads_of n text file answer is h = read_answer n text (members_of file) answer is (not_toml n (members_of file)) h

pub accepted : (n : ℕ) (text : List ℕ) (file : ScenarioFile) (s : ScenarioData) → IsTextOf text (members_of file)
    → counted (members_of file) ≡ Ok n → Answers (Ok s) (reading n (members_of file)) → IsScenarioText text n s
accepted n text file s is counts h =
    record { counts = (members_of file, is, counts); reads = reads_of n text file (Ok s) is h }

pub refused : (n : ℕ) (text : List ℕ) (file : ScenarioFile) (fault : ScenarioFault) → IsTextOf text (members_of file)
    → counted (members_of file) ≡ Ok n → Answers (Err fault) (reading n (members_of file)) → IsRefused text fault
refused n text file fault is counts h = inr (n, (members_of file, is, counts), reads_of n text file (Err fault) is h)
