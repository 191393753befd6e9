-- What is said of a line of a test script: this product's own form, docs/FORMATS.md, "Tests".
use Rattle.std.specs.Prelude.{ℕ, zero, suc, ◌==◌, Bool, false, if◌then◌else◌, List, [], ◌∷◌, ◌++◌, codes, decimal, bytes_eq}
use Rattle.std.specs.Prelude.{Option, Some, None}
use Rattle.pd_text.specs.declared.piece.Form.TheVariants.{Words}
use Rattle.pd_text.specs.declared.piece.Unit.TheVariants.{Plain}
use Rattle.pd_text.specs.Pieces.{PieceData, line_number, line_words, string}
use Rattle.pd_text.specs.Texts.{text_of_all}
use Rattle.pd_text.specs.Fronts.{FrontData, line_with, said}
use Rattle.pd_objects.specs.declared.contract.Contract.{Contract}
use Rattle.pd_tell.specs.Members.{number_member}
use Rattle.pd_hints.specs.Slips.{meant_text, nearest}
use Rattle.pd_edit_lines.specs.Words.{next, words}
use Rattle.pd_edit_lines.specs.declared.fault.EditFault.TheVariants.{Range, Syntax}
use Rattle.pd_scene.specs.Script.{refused_at}
use Rattle.pd_sweep.specs.Words.{obstacle_words}
use Rattle.pd_report.specs.declared.least.Margin.{Margin}
use Rattle.pd_expect.specs.FaultTexts.{short_texts}
use Rattle.pd_expect.specs.Stops.{line_stop_hint, line_stop_text}
use Rattle.pd_expect.specs.declared.found.Found.{Found}
use Rattle.pd_expect.specs.declared.found.Found.TheVariants as found
use Rattle.pd_expect.specs.declared.loss.LoseFault.{LoseFault}
use Rattle.pd_expect.specs.declared.loss.LoseFault.TheVariants as fault
use Rattle.pd_expect.specs.declared.lines.Expectation.{Expectation}
use Rattle.pd_expect.specs.declared.lines.Expectation.TheVariants as expect
use Rattle.pd_expect.specs.declared.lines.Period.{Period}
use Rattle.pd_expect.specs.declared.low.Low.{Low}
use Rattle.pd_expect.specs.declared.over_time.Break.{Break}
use Rattle.pd_expect.specs.declared.span.Span.{Span}
use Rattle.pd_expect.specs.declared.tally.TestTally.{TestTally}

-- a contract, as in the show of contracts
abbrev pub known_words : ℕ → ℕ → ℕ → List ℕ
known_words position mv ma =
    codes "contract " ++ (decimal position ++ (32 ∷ (decimal mv ++ (codes " mV " ++ (decimal ma ++ codes " mA")))))

abbrev pub contract_words : Option Contract → List ℕ
contract_words None = codes "no contract"
contract_words (Some c) = known_words c.position c.mv c.ma

abbrev pub faults_word : ℕ → List ℕ
faults_word count = if count == 1 then codes " fault" else codes " faults"

-- the contract where it isn't as wanted
abbrev pub stands_of : Option Break → Option Contract
stands_of None = None
stands_of (Some broken) = broken.stands

-- what is left at an instant
abbrev pub left_words : Margin → List ℕ
left_words margin = codes "margin " ++ (decimal margin.left ++ (codes " at " ++ decimal margin.at))

-- the least, where it is too little
abbrev pub low_words : Option Low → List ℕ
low_words None = []
low_words (Some low) = left_words low.least

-- what there is in place of what is expected
unfoldable pub found_words : Found → List ℕ
found_words (found.Contract broken) = contract_words (stands_of broken)
found_words (found.Least margin) = left_words margin
found_words (found.Low low) = low_words low
found_words (found.Faults count) = decimal count ++ faults_word count
found_words (found.Fault there) = codes "no such fault"
found_words (found.Packet there) = codes "no such packet"

abbrev pub there_words : Found → List ℕ
there_words (found.Faults count) = if count == 1 then codes "; there is " else codes "; there are "
there_words _ = codes "; there is "

-- what there is, and details of that
abbrev pub there : Found → List ℕ → List ℕ
there what details = found_words what ++ details

-- an expectation that isn't met: where its line stands, the line, and what there is
unfoldable pub failure_line : FrontData → List ℕ → Found → List ℕ → List ℕ
failure_line at line what details =
    line_with at
    (string (codes ": failed: ") (codes "expected") line ∷ string (there_words what) (codes "found") (there what details) ∷ [])

-- an expectation that is met
unfoldable pub passed_line : FrontData → List ℕ → List ℕ
passed_line at line = line_with at (string (codes ": passed: ") (codes "passed") line ∷ [])

-- what there is, as a sentence of its own
abbrev pub is_words : Found → List ℕ
is_words (found.Faults count) = if count == 1 then codes "there is " else codes "there are "
is_words _ = codes "there is "

unfoldable pub there_is : Found → List ℕ → List ℕ
there_is what details = is_words what ++ there what details

-- the form of a line, by the word behind `expect`
abbrev pub form_named : List ℕ → List ℕ
form_named word =
    if bytes_eq word (codes "contract") then codes "`expect contract PORT TIME [voltage RANGE] [current RANGE] [power at_least POWER]`"
    else if bytes_eq word (codes "no") then codes "`expect no contract PORT TIME` or `expect no fault [PORT] [\"WORDS\"] [TIME]`"
    else if bytes_eq word (codes "margin") then codes "`expect margin at_least POWER [TIME]`"
    else if bytes_eq word (codes "faults") then codes "`expect faults none` or `expect faults PORT at_most NUMBER [but \"WORDS\"]..`"
    else if bytes_eq word (codes "fault") then codes "`expect fault PORT \"WORDS\"`"
    else if bytes_eq word (codes "packet") then codes "`expect packet PORT SIDE NAME between FROM TO`"
    else []

abbrev pub form_behind : Option (List ℕ × List (List ℕ)) → List ℕ
form_behind None = form_named []
form_behind (Some second) = form_named second.0

abbrev pub form_of : Option (List ℕ × List (List ℕ)) → List ℕ
form_of None = form_named []
form_of (Some first) =
    if bytes_eq first.0 (codes "lose") then codes "`lose NTH NAME of port PORT`" else form_behind (next first.1)

-- where there is one: no form has another word behind `expect`
abbrev pub form_words : List ℕ → List ℕ
form_words [] = []
form_words form = codes "; the form is " ++ form

-- a line that begins as one of a test, and is none: the word at which it stops to be one, and the form that its first words have
abbrev pub no_test_words : List ℕ → List ℕ
no_test_words line = line_stop_text line ++ form_words (form_of (next (words line)))

unfoldable pub no_test_line : FrontData → List ℕ → List ℕ
no_test_line at line = line_with (refused_at at Syntax) (said [] (no_test_words line) (line_stop_hint line))

-- a range in which no number is
abbrev pub empty_range_words : Span → List ℕ
empty_range_words span =
    text_of_all Words (line_number (codes "no number is from ") Plain span.from ∷ line_number (codes " to ") Plain span.to ∷ [])

-- a margin without its unit: which ones it may be
abbrev pub bare_margin_words : ℕ → List ℕ
bare_margin_words n =
    text_of_all Words
    (line_number (codes "a power has its unit: ") Plain n ∷ line_number (codes "mW or ") Plain n ∷ line_words (codes "uW?") ∷ [])

unfoldable pub bare_margin_line : FrontData → ℕ → List ℕ
bare_margin_line at n = line_with (refused_at at Syntax) (said [] (bare_margin_words n) [])

unfoldable pub empty_range_line : FrontData → Span → List ℕ
empty_range_line at span = line_with (refused_at at Syntax) (said [] (empty_range_words span) (codes "the lesser one comes first"))

-- words in which no fault is told, which there are, and which may be meant
abbrev pub no_text_words : List ℕ → List ℕ
no_text_words text =
    text_of_all Words
    (line_words (codes "no fault is told as `") ∷ line_words text
    ∷ line_words (codes "`; there are `SIDE no GoodCRC MESSAGE`, `soft reset by SIDE`, `hard reset by SIDE`, ")
    ∷ line_words (codes "`source disabled`, `sink disabled`, `cable unread`, `mismatch`, `reject`, `wait` and ")
    ∷ line_words (codes "`event N ignored`") ∷ [])

unfoldable pub no_text_line : FrontData → List ℕ → List ℕ
no_text_line at text = line_with (refused_at at Syntax) (said [] (no_text_words text) (meant_text (nearest text short_texts)))

-- a period is one instant
abbrev pub is_end_at : ℕ → Option ℕ → Bool
is_end_at from None = false
is_end_at from (Some to) = to == from

abbrev pub is_instant : Period → Bool
is_instant period = is_end_at period.from period.to

-- the word for the last time in the form of an expectation
abbrev pub end_word : Option ℕ → List ℕ
end_word None = codes "FROM"
end_word (Some to) = codes "TO"

abbrev pub period_word : Period → List ℕ
period_word period = if is_instant period then codes "TIME" else end_word period.to

abbrev pub time_word : Expectation → List ℕ
time_word (expect.Contract port period wants) = period_word period
time_word (expect.MarginOver period least) = period_word period
time_word (expect.NoFault port told period) = period_word period
time_word (expect.Packet port side kind from to) = codes "TO"
time_word _ = codes "TIME"

-- a time after the end
abbrev pub late_words : List ℕ → ℕ → ℕ → List ℕ
late_words word time end =
    text_of_all Words
    (line_words (codes "`") ∷ line_words word ∷ line_number (codes "` is ") Plain time ∷ line_number (codes ", above ") Plain end
    ∷ line_words (codes ", the end") ∷ [])

unfoldable pub late_line : FrontData → List ℕ → ℕ → ℕ → List ℕ
late_line at word time end = line_with (refused_at at Range) (said word (late_words word time end) [])

-- the numbers that packets of the kind have, where there are any
abbrev pub numbered_piece : ℕ → PieceData
numbered_piece count = if count == 0 then line_words [] else line_number (codes "; they are numbered from 1 to ") Plain count

abbrev pub no_packet_words : ℕ → List ℕ
no_packet_words count = text_of_all Words (line_words (codes "there is no such packet") ∷ numbered_piece count ∷ [])

-- why a packet isn't lost
abbrev pub loss_words : LoseFault → List ℕ
loss_words (fault.NoPacket count) = no_packet_words count
loss_words fault.Disturbed = codes "the scenario disturbs that packet already"
loss_words fault.Missed = codes "the event doesn't hit that packet"
loss_words (fault.Barred obstacle) = obstacle_words obstacle

-- one whose loss was tried, or couldn't be
abbrev pub loss_piece : LoseFault → List ℕ → PieceData
loss_piece (fault.Barred obstacle) why = string (codes ": not tried: ") (codes "not_tried") why
loss_piece _ why = string (codes ": not lost: ") (codes "not_lost") why

unfoldable pub loss_line : FrontData → LoseFault → List ℕ
loss_line at fault = line_with at (loss_piece fault (loss_words fault) ∷ [])

-- what all lines come to
abbrev pub refused_words : ℕ → List ℕ
refused_words zero = codes "\n"
refused_words (suc n) = codes ", " ++ (decimal (suc n) ++ codes " refused\n")

unfoldable pub tally_words : TestTally → List ℕ
tally_words tally =
    decimal tally.passed ++ (codes " passed, " ++ (decimal tally.failed ++ (codes " failed" ++ refused_words tally.refused)))

-- the same as a JSON object on a line of its own
unfoldable pub tally_object : TestTally → List ℕ
tally_object tally =
    codes "{\"passed\":" ++ (decimal tally.passed ++ (number_member (codes "failed") tally.failed
    ++ (number_member (codes "refused") tally.refused ++ codes "}\n")))
