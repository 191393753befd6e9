use Rattle.std.proofs.Common.{subst}
use Rattle.pd_scenario_text.specs.FileTables.{Tables, scenario_of}
use Rattle.pd_scenario_text.specs.Refusals.{refusal}
use Rattle.pd_scenario_text.specs.Reading.{Answers, answered}
use Rattle.pd_scenario_text.proofs.file.ScenarioFile.scenario.Goals as goal

pub returns : goal.returns
returns g c =
    let P : Tables → Type 0 = λ d. Answers c.scenario.result (answered (refusal g.row.N d) (scenario_of d)) in
    subst P c.in_ok-document.ensures c.scenario.ensures
