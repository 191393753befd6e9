-- What a test script comes to, for a scenario.
use Rattle.std.specs.Prelude.{ℕ, List}
use Rattle.pd_scenario.specs.Scenarios.{ScenarioData}
use Rattle.pd_expect.specs.Named.{script_lines}
use Rattle.pd_expect.specs.Tests.{Tests}
use Rattle.pd_expect.specs.declared.case.Case.{Case}

-- the cases of the lines of a script of a name, for a scenario of n ports
abbrev pub TestsScene : List ℕ → List ℕ → ℕ → ScenarioData → List Case → Type 0
TestsScene name script n s cases = Tests n s name 1 (script_lines script) cases
