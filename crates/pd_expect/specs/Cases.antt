-- What is told of the lines of a test script, and how they count: docs/LAB.md, "Tests".
use Rattle.std.specs.Prelude.{ℕ, Bool, true, false, List, [], count_by, if◌then◌else◌}
use Rattle.std.specs.List.{flat_map}
use Rattle.pd_text.specs.declared.piece.Form.{Form}
use Rattle.pd_text.specs.declared.piece.Form.TheVariants.{Words, Json}
use Rattle.pd_text.specs.Fronts.{FrontData, front_of_file}
use Rattle.pd_scene.specs.Script.{at_line}
use Rattle.pd_expect.specs.Words.{failure_line, passed_line}
use Rattle.pd_expect.specs.declared.case.Case.{Case}
use Rattle.pd_expect.specs.declared.case.Verdict.{Verdict}
use Rattle.pd_expect.specs.declared.case.Verdict.TheVariants as verdict
use Rattle.pd_expect.specs.declared.tally.Kind.{Kind}
use Rattle.pd_expect.specs.declared.tally.Kind.TheVariants as kind
use Rattle.pd_expect.specs.declared.tally.TestTally.{TestTally}

-- ---- what is told

abbrev pub in_form : Form → List ℕ → List ℕ → List ℕ
in_form Words words objects = words
in_form Json words objects = objects

-- that an expectation is met is told where it is asked for
abbrev pub passed_text : Bool → FrontData → List ℕ → List ℕ
passed_text passes at line = if passes then passed_line at line else []

abbrev pub verdict_text : Form → Bool → FrontData → List ℕ → Verdict → List ℕ
verdict_text form passes at line verdict.Passed = passed_text passes at line
verdict_text form passes at line (verdict.Failed what details) = failure_line at line what details
verdict_text form passes at line (verdict.Refused words objects) = in_form form words objects

-- behind the script's name and the line's number
unfoldable pub case_text : Form → Bool → List ℕ → Case → List ℕ
case_text form passes name case = verdict_text form passes (at_line (front_of_file form name) case.number) case.line case.verdict

-- of all of a script, one after the other
abbrev pub cases_text : Form → Bool → List ℕ → List Case → List ℕ
cases_text form passes name cases = flat_map (case_text form passes name) cases

-- ---- counts

abbrev pub no_test : TestTally
no_test = record { passed = 0; failed = 0; refused = 0 }

abbrev pub is_of_kind : Kind → Verdict → Bool
is_of_kind kind.Passed verdict.Passed = true
is_of_kind kind.Failed (verdict.Failed what details) = true
is_of_kind kind.Refused (verdict.Refused words objects) = true
is_of_kind _ _ = false

-- how many of the cases are of the kind
abbrev pub count_of : Kind → List Case → ℕ
count_of which cases = count_by (λ case. is_of_kind which case.verdict) cases

abbrev pub tally_of : List Case → TestTally
tally_of cases = record {
  passed = count_of kind.Passed cases;
  failed = count_of kind.Failed cases;
  refused = count_of kind.Refused cases;
}
