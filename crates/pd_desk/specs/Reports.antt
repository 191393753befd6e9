-- What a run has of contracts, faults and margins.
use Rattle.std.specs.Prelude.{◌≡◌, ℕ, List, ◌++◌}
use Rattle.pd_port.specs.declared.entry.Entry.{Entry}
use Rattle.pd_scenario.specs.Scenarios.{ScenarioData}
use Rattle.pd_scenario.specs.Plan.{Plan}
use Rattle.pd_scenario.specs.Plans.{plan_of}
use Rattle.pd_run.specs.Shown.{Shows}
use Rattle.pd_report.specs.ContractLines.{contracts_text}
use Rattle.pd_report.specs.FaultLines.{faults_text}
use Rattle.pd_report.specs.Margins.{margins_text}
use Rattle.pd_desk.specs.Diff.{diff_text}

-- the shows of contracts, faults and margins, one after the other
unfoldable pub report_text : Plan → List (ℕ × Entry) → List ℕ
report_text plan entries = contracts_text entries ++ (faults_text entries ++ margins_text plan entries)

-- the text is that of the scenario's run
abbrev pub Reports : ScenarioData → List ℕ → Type 0
Reports s text = (entries : List (ℕ × Entry)) × Shows (plan_of s) entries × (text ≡ report_text (plan_of s) entries)

-- what differs between the runs of two scenarios
abbrev pub TellsDiff : ScenarioData → ScenarioData → List ℕ → Type 0
TellsDiff before now text =
    (earlier : List ℕ) × (later : List ℕ) × Reports before earlier × Reports now later × (text ≡ diff_text earlier later)
