-- Expectations that each row is held against: docs/LAB.md, "Vary".
use Rattle.std.specs.Prelude.{◌≡◌, ℕ, ◌==◌, ◌||◌, max, Bool, false, List, [], ◌∷◌, ◌++◌, codes, fold, if◌then◌else◌}
use Rattle.std.specs.Prelude.{Option, None, Some}
use Rattle.pd_expect.specs.Held.{IsHeld}
use Rattle.pd_expect.specs.Lines.{test_line}
use Rattle.pd_expect.specs.OverTime.{Moves}
use Rattle.pd_expect.specs.Refusals.{no_expectation_text}
use Rattle.pd_expect.specs.Sentences.{port_of}
use Rattle.pd_expect.specs.declared.lines.Expectation.{Expectation}
use Rattle.pd_expect.specs.declared.lines.TestLine.{TestLine}
use Rattle.pd_expect.specs.declared.lines.TestLine.TheVariants as line_is
use Rattle.pd_scenario.specs.Plan.{Plan}
use Rattle.pd_text.specs.declared.piece.Form.TheVariants.{Words}
use Rattle.pd_text.specs.Fronts.{front_of_file}
use Rattle.pd_vary.specs.Asks.{greatest_port}
use Rattle.pd_vary.specs.declared.ask.Ask.{Ask}
use Rattle.pd_vary.specs.declared.condition.Condition.{Condition}

-- ---- how one is read

abbrev pub condition_by : List ℕ → TestLine → Option (List ℕ × Expectation)
condition_by line (line_is.Expect expectation) = Some (line, expectation)
condition_by line _ = None

-- a line of a test script that says what is expected
abbrev pub condition_of : List ℕ → Option (List ℕ × Expectation)
condition_of line = condition_by line (test_line line)

-- how it is named: behind its option
abbrev pub option_word : List ℕ → List ℕ
option_word line = codes "--where `" ++ (line ++ codes "`")

-- why a line is none
abbrev pub no_condition_text : List ℕ → List ℕ
no_condition_text line = no_expectation_text line (test_line line) (front_of_file Words (option_word line))

-- ---- the ports that they name

-- the greater of two ports; but 0, which no charger has, stands before any
abbrev pub further_port : Option ℕ → Option ℕ → Option ℕ
further_port port None = port
further_port None (Some other) = Some other
further_port (Some port) (Some other) = if port == 0 || other == 0 then Some 0 else Some (max port other)

abbrev pub condition_port : Option ℕ → Condition → Option ℕ
condition_port port condition = further_port port (port_of condition.expectation)

-- the one that has to be there, so that all are of which something is asked or expected
abbrev pub asked_port : List Ask → List Condition → Option ℕ
asked_port asks wheres = fold condition_port (greatest_port asks) wheres

-- ---- whether they hold

-- The verdicts on the run of a plan with these moves, one for each in their order. There is none on one of a time after the end.
unfoldable pub AreHeld : Plan → Moves → List Condition → List (Option Bool) → Type 0
AreHeld plan moves [] verdicts = verdicts ≡ []
AreHeld plan moves (one ∷ more) verdicts =
    (first : Option Bool) × (rest : List (Option Bool)) × IsHeld plan moves one.line.now one.expectation first
    × AreHeld plan moves more rest × (verdicts ≡ first ∷ rest)

-- one holds where that is known
abbrev pub holds : Option Bool → Bool
holds None = false
holds (Some verdict) = verdict
