-- What a test script comes to.
use Rattle.std.specs.Prelude.{◌≡◌, ℕ, ◌+◌, List, [], ◌∷◌, ◌++◌, if◌then◌else◌, Option, Some, None, Result, Ok, Err}
use Rattle.pd_port.specs.declared.entry.Entry.{Entry}
use Rattle.pd_run.specs.Shown.{Shows}
use Rattle.pd_scenario.specs.Plans.{plan_of}
use Rattle.pd_scenario.specs.Scenarios.{ScenarioData}
use Rattle.pd_scene.specs.Script.{after_line, line_text}
use Rattle.pd_expect.specs.Details.{details}
use Rattle.pd_expect.specs.Lines.{test_line}
use Rattle.pd_expect.specs.Losses.{IsLoss}
use Rattle.pd_expect.specs.Refusals.{places, refused}
use Rattle.pd_expect.specs.Sentences.{IsFound, is_met, last_time, late_time, port_of, unknown_port}
use Rattle.pd_expect.specs.declared.case.Case.{Case}
use Rattle.pd_expect.specs.declared.case.Verdict.{Verdict}
use Rattle.pd_expect.specs.declared.case.Verdict.TheVariants as verdict
use Rattle.pd_expect.specs.declared.found.Found.{Found}
use Rattle.pd_expect.specs.declared.lines.Expectation.{Expectation}
use Rattle.pd_expect.specs.declared.lines.Lost.{Lost}
use Rattle.pd_expect.specs.declared.lines.TestLine.{TestLine}
use Rattle.pd_expect.specs.declared.lines.TestLine.TheVariants as line_is
use Rattle.pd_expect.specs.declared.loss.LoseFault.{LoseFault}
use Rattle.pd_expect.specs.declared.refusal.Places.{Places}
use Rattle.pd_expect.specs.declared.refusal.Refusal.{Refusal}
use Rattle.pd_expect.specs.declared.refusal.Refusal.TheVariants as why

-- ---- what a line comes to: the verdict on it, if there is one, and the scenario after it
pub record Answer : Type 0 where
  pub verdict : Option Verdict
  pub after : ScenarioData

-- an expectation is met, or what there is in its place
abbrev pub judged : List ℕ → Expectation → Found → List (ℕ × Entry) → Verdict
judged line expectation what moves =
    if is_met expectation what then verdict.Passed else verdict.Failed what (details expectation line what moves)

-- it is held against the run of the scenario as edited by then
abbrev pub Judges : ScenarioData → List ℕ → Expectation → Verdict → Type 0
Judges c line expectation answer =
    (moves : List (ℕ × Entry)) × Shows (plan_of c) moves × (what : Found) × IsFound (plan_of c) moves line expectation what
    × (answer ≡ judged line expectation what moves)

-- one of a time after the end is refused: nothing is known of then
abbrev pub ExpectsInTime : ℕ → ScenarioData → Places → List ℕ → Expectation → Option ℕ → Verdict → Type 0
ExpectsInTime n c at line expectation None answer = Judges c line expectation answer
ExpectsInTime n c at line expectation (Some time) answer =
    answer ≡ refused n c at line (why.Late expectation time (plan_of c).end)

-- so is one of a port that isn't there
abbrev pub Expects : ℕ → ScenarioData → Places → List ℕ → Expectation → Option ℕ → Verdict → Type 0
Expects n c at line expectation None answer =
    ExpectsInTime n c at line expectation (late_time (plan_of c).end (last_time expectation)) answer
Expects n c at line expectation (Some port) answer = answer ≡ refused n c at line (why.NoPort port)

-- a line that is refused leaves the scenario as it is
abbrev pub refuses : ℕ → ScenarioData → Places → List ℕ → Refusal → Answer
refuses n c at line refusal = record { verdict = Some (refused n c at line refusal); after = c }

-- a packet that is lost needs no words
abbrev pub lost_answer : ℕ → ScenarioData → Places → List ℕ → Result ScenarioData LoseFault → Answer
lost_answer n c at line (Ok after) = record { verdict = None; after = after }
lost_answer n c at line (Err fault) = refuses n c at line (why.NotLost fault)

abbrev pub Loses : ℕ → ScenarioData → Places → List ℕ → Lost → Answer → Type 0
Loses n c at line lost answer =
    (outcome : Result ScenarioData LoseFault) × IsLoss n c lost outcome × (answer ≡ lost_answer n c at line outcome)

-- a line of an edit script of which something is said is refused
abbrev pub said : List ℕ → List ℕ → Option Verdict
said [] objects = None
said (byte ∷ more) objects = Some (verdict.Refused (byte ∷ more) objects)

abbrev pub edited : ℕ → ScenarioData → Places → List ℕ → Answer
edited n c at line = record {
  verdict = said (line_text at.words n c line) (line_text at.objects n c line);
  after = after_line n c line;
}

abbrev pub AnswersAs : ℕ → ScenarioData → Places → List ℕ → TestLine → Answer → Type 0
AnswersAs n c at line line_is.Edit answer = answer ≡ edited n c at line
AnswersAs n c at line (line_is.Expect expectation) answer =
    (one : Verdict) × Expects n c at line expectation (unknown_port n (port_of expectation)) one
    × (answer ≡ record { verdict = Some one; after = c })
AnswersAs n c at line (line_is.Lose lost) answer = Loses n c at line lost answer
AnswersAs n c at line (line_is.EmptyRange span) answer = answer ≡ refuses n c at line (why.EmptyRange span)
AnswersAs n c at line (line_is.BareMargin bare) answer = answer ≡ refuses n c at line (why.BareMargin bare)
AnswersAs n c at line line_is.NoFaultText answer = answer ≡ refuses n c at line why.NoFaultText
AnswersAs n c at line line_is.NoTest answer = answer ≡ refuses n c at line why.NoTest

-- what a line of a script comes to, of the scenario as edited by then
abbrev pub IsAnswer : ℕ → ScenarioData → Places → List ℕ → Answer → Type 0
IsAnswer n c at line answer = AnswersAs n c at line (test_line line) answer

-- ---- what the lines come to, one after the other; the first has this number

-- the case of a line, if there is a verdict on it
abbrev pub case_of : ℕ → List ℕ → Option Verdict → List Case
case_of number line None = []
case_of number line (Some one) = record { number = number; line = line; verdict = one } ∷ []

unfoldable pub Tests : ℕ → ScenarioData → List ℕ → ℕ → List (List ℕ) → List Case → Type 0
Tests n c name number [] cases = cases ≡ []
Tests n c name number (line ∷ lines) cases =
    (answer : Answer) × (rest : List Case) × IsAnswer n c (places name number) line answer
    × Tests n answer.after name (number + 1) lines rest × (cases ≡ case_of number line answer.verdict ++ rest)
