-- What came of test scripts as a report of JUnit's form: docs/LAB.md, "Tests".
use Rattle.std.specs.Prelude.{ℕ, ◌+◌, ◌-◌, ◌==◌, true, List, [], ◌∷◌, ◌++◌, length, take, drop, sum_by, codes, decimal}
use Rattle.std.specs.Prelude.{Option, Some, None, if◌then◌else◌}
use Rattle.std.specs.List.{flat_map}
use Rattle.std.specs.Str.Lines.{lines}
use Rattle.pd_text.specs.declared.piece.Form.TheVariants.{Words}
use Rattle.pd_edit_lines.specs.Words.{next}
use Rattle.pd_expect.specs.Cases.{case_text, count_of}
use Rattle.pd_expect.specs.Words.{there_is}
use Rattle.pd_expect.specs.Xml.{XmlData, markup, number, seconds, text, xml_text}
use Rattle.pd_expect.specs.declared.case.Case.{Case}
use Rattle.pd_expect.specs.declared.case.Verdict.{Verdict}
use Rattle.pd_expect.specs.declared.case.Verdict.TheVariants as verdict
use Rattle.pd_expect.specs.declared.junit.Amount.{Amount}
use Rattle.pd_expect.specs.declared.junit.Amount.TheVariants as amount
use Rattle.pd_expect.specs.declared.junit.Suite.{Suite}
use Rattle.pd_expect.specs.declared.tally.Kind.TheVariants as kind

-- ---- a case

-- what is told of a case in words, without the line's end
abbrev pub told : List ℕ → Case → List ℕ
told script case = take (length (case_text Words true script case) - 1) (case_text Words true script case)

-- where its line stands, as it is told
unfoldable pub place_words : List ℕ → ℕ → List ℕ
place_words script line = script ++ (codes ":" ++ (decimal line ++ codes ": "))

abbrev pub first_or_none : Option (List ℕ × List (List ℕ)) → List ℕ
first_or_none None = []
first_or_none (Some first) = first.0

-- the first line of what is told, behind its place
abbrev pub reason : List ℕ → ℕ → List ℕ → List ℕ
reason script line words = first_or_none (next (lines (drop (length (place_words script line)) words)))

-- <testcase classname="SCRIPT" name="LINE: THE LINE
abbrev pub case_name : List ℕ → Case → List XmlData
case_name script case =
    markup (codes "<testcase classname=\"") ∷ text script ∷ markup (codes "\" name=\"") ∷ number case.number ∷ markup (codes ": ")
    ∷ text case.line ∷ []

-- " file="SCRIPT" line="LINE"
abbrev pub case_place : List ℕ → ℕ → List XmlData
case_place script line =
    markup (codes "\" file=\"") ∷ text script ∷ markup (codes "\" line=\"") ∷ number line ∷ markup (codes "\"") ∷ []

unfoldable pub case_head : List ℕ → Case → List ℕ
case_head script case = xml_text (case_name script case) ++ xml_text (case_place script case.number)

-- an element of this name in it, with a message and what is told
abbrev pub inner : List ℕ → List ℕ → List ℕ → List XmlData
inner name message words =
    markup (codes ">\n<") ∷ markup name ∷ markup (codes " message=\"") ∷ text message ∷ markup (codes "\">") ∷ text words
    ∷ markup (codes "</") ∷ markup name ∷ markup (codes ">\n</testcase>\n") ∷ []

abbrev pub verdict_pieces : List ℕ → ℕ → Verdict → List ℕ → List XmlData
verdict_pieces script line verdict.Passed words = markup (codes "/>\n") ∷ []
verdict_pieces script line (verdict.Failed what details) words = inner (codes "failure") (there_is what details) words
verdict_pieces script line (verdict.Refused said objects) words = inner (codes "error") (reason script line said) words

unfoldable pub case_xml : List ℕ → Case → List ℕ
case_xml script case =
    case_head script case ++ xml_text (verdict_pieces script case.number case.verdict (told script case))

-- ---- a script

-- that it couldn't be gone through is one case more
abbrev pub faults : List ℕ → ℕ
faults fault = if length fault == 0 then 0 else 1

-- <testcase classname="SCRIPT" name="SCRIPT" file="SCRIPT"
abbrev pub fault_head : List ℕ → List XmlData
fault_head script =
    markup (codes "<testcase classname=\"") ∷ text script ∷ markup (codes "\" name=\"") ∷ text script ∷ markup (codes "\" file=\"")
    ∷ text script ∷ markup (codes "\"") ∷ []

abbrev pub fault_case : List ℕ → List ℕ → List ℕ
fault_case script fault = xml_text (fault_head script) ++ xml_text (inner (codes "error") fault fault)

abbrev pub fault_xml : List ℕ → List ℕ → List ℕ
fault_xml script fault = if length fault == 0 then [] else fault_case script fault

-- how many cases, failures and errors a script has, and how many microseconds it took
abbrev pub amount_of : Amount → Suite → ℕ
amount_of amount.Tests suite = length suite.cases.items + faults suite.fault
amount_of amount.Failures suite = count_of kind.Failed suite.cases.items
amount_of amount.Errors suite = count_of kind.Refused suite.cases.items + faults suite.fault
amount_of amount.Time suite = suite.micros

-- as attributes: tests="2" failures="1" errors="0" time="0.012345"
abbrev pub amounts : ℕ → ℕ → ℕ → ℕ → List XmlData
amounts tests failures errors us =
    markup (codes " tests=\"") ∷ number tests ∷ markup (codes "\" failures=\"") ∷ number failures ∷ markup (codes "\" errors=\"")
    ∷ number errors ∷ markup (codes "\" time=\"") ∷ seconds us ∷ markup (codes "\">\n") ∷ []

abbrev pub suite_head : Suite → List ℕ
suite_head suite =
    xml_text (markup (codes "<testsuite name=\"") ∷ text suite.script ∷ markup (codes "\"") ∷ [])
    ++ xml_text (amounts (amount_of amount.Tests suite) (amount_of amount.Failures suite) (amount_of amount.Errors suite)
    (amount_of amount.Time suite))

-- each case once, in the script's order
unfoldable pub suite_xml : Suite → List ℕ
suite_xml suite =
    suite_head suite ++ (flat_map (case_xml suite.script) suite.cases.items
    ++ (fault_xml suite.script suite.fault ++ codes "</testsuite>\n"))

-- ---- all scripts

abbrev pub sum_of : Amount → List Suite → ℕ
sum_of what suites = sum_by (amount_of what) suites

unfoldable pub declaration : List ℕ
declaration = codes "<?xml version=\"1.0\" encoding=\"UTF-8\"?>\n<testsuites"

abbrev pub head : List Suite → List ℕ
head suites =
    declaration
    ++ xml_text (amounts (sum_of amount.Tests suites) (sum_of amount.Failures suites) (sum_of amount.Errors suites)
    (sum_of amount.Time suites))

-- the report: the sums, and each script in order
unfoldable pub junit : List Suite → List ℕ
junit suites = head suites ++ (flat_map suite_xml suites ++ codes "</testsuites>\n")
