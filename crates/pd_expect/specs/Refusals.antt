-- What is told of a line of a test script that is refused, where it is none of an edit script: docs/LAB.md, "Tests".
use Rattle.std.specs.Prelude.{ℕ, Bool, false, List, [], bytes_eq, codes, if◌then◌else◌, Option, None, Some, unwrap_or}
use Rattle.pd_scenario.specs.Scenarios.{ScenarioData}
use Rattle.pd_edit_lines.specs.Words.{next, words}
use Rattle.pd_edit_lines.specs.declared.fault.EditFault.TheVariants.{NoSuchPort, Syntax}
use Rattle.pd_explain.specs.Lines.{place_line}
use Rattle.pd_explain.specs.declared.place.Place.TheVariants as place
use Rattle.pd_scene.specs.Script.{at_line, refused_at}
use Rattle.pd_text.specs.declared.piece.Form.TheVariants.{Words, Json}
use Rattle.pd_text.specs.Fronts.{FrontData, front_of_file, line_with, said}
use Rattle.pd_expect.specs.Lines.{quoted, wrong_text}
use Rattle.pd_expect.specs.Words.{bare_margin_line, empty_range_line, late_line, loss_line, no_test_line, no_text_line, time_word}
use Rattle.pd_expect.specs.declared.case.Verdict.{Verdict}
use Rattle.pd_expect.specs.declared.case.Verdict.TheVariants as verdict
use Rattle.pd_expect.specs.declared.lines.TestLine.{TestLine}
use Rattle.pd_expect.specs.declared.lines.TestLine.TheVariants as line_is
use Rattle.pd_expect.specs.declared.refusal.Places.{Places}
use Rattle.pd_expect.specs.declared.refusal.Refusal.{Refusal}
use Rattle.pd_expect.specs.declared.refusal.Refusal.TheVariants as why

-- where the line of a number of a script stands, in words and as objects
abbrev pub places : List ℕ → ℕ → Places
places name number = record {
  words = at_line (front_of_file Words name) number;
  objects = at_line (front_of_file Json name) number;
}

-- what is told of a line of a scenario of n ports, behind where it stands
abbrev pub refusal_text : ℕ → ScenarioData → List ℕ → Refusal → FrontData → List ℕ
refusal_text n c line (why.NoPort port) at = place_line (refused_at at NoSuchPort) n c (place.Port port)
refusal_text n c line (why.Late expectation time end) at = late_line at (time_word expectation) time end
refusal_text n c line (why.NotLost fault) at = loss_line at fault
refusal_text n c line (why.EmptyRange span) at = empty_range_line at span
refusal_text n c line (why.BareMargin bare) at = bare_margin_line at bare
refusal_text n c line why.NoFaultText at = no_text_line at (unwrap_or (wrong_text (quoted line)) [])
refusal_text n c line why.NoTest at = no_test_line at line

-- that in either form
abbrev pub refused : ℕ → ScenarioData → Places → List ℕ → Refusal → Verdict
refused n c at line refusal = verdict.Refused (refusal_text n c line refusal at.words) (refusal_text n c line refusal at.objects)

-- ---- why a line is no expectation, behind where it stands

abbrev pub begins_with_expect : Option (List ℕ × List (List ℕ)) → Bool
begins_with_expect None = false
begins_with_expect (Some first) = bytes_eq first.0 (codes "expect")

unfoldable pub other_line : FrontData → List ℕ
other_line at = line_with (refused_at at Syntax) (said [] (codes "it isn't a line that begins with `expect`") [])

-- one that begins so is refused as a line of a test script is
abbrev pub no_expectation_text : List ℕ → TestLine → FrontData → List ℕ
no_expectation_text line (line_is.Expect expectation) at = []
no_expectation_text line (line_is.EmptyRange span) at = empty_range_line at span
no_expectation_text line (line_is.BareMargin bare) at = bare_margin_line at bare
no_expectation_text line line_is.NoFaultText at = no_text_line at (unwrap_or (wrong_text (quoted line)) [])
no_expectation_text line line_is.NoTest at = if begins_with_expect (next (words line)) then no_test_line at line else other_line at
no_expectation_text line line_is.Edit at = other_line at
no_expectation_text line (line_is.Lose lost) at = other_line at
