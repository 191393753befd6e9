-- The lines of a test script. It has the lines of an edit script, and beside them
--     expect contract PORT TIME [voltage RANGE] [current RANGE] [power at_least POWER]
--     expect no contract PORT TIME
--     expect margin at_least POWER [TIME]
--     expect faults none
--     expect no fault [PORT] ["WORDS"] [TIME]
--     expect faults PORT at_most NUMBER [but "WORDS"]..
--     expect fault PORT "WORDS"
--     expect packet PORT SIDE NAME between FROM TO
--     lose NTH NAME of port PORT
-- TIME is `at T`, `from T to T`, or one of these two ends alone: then the other is the run's. RANGE is a number, or two with .. between
-- them. No range ends before it begins, and TO isn't before FROM. TIME, FROM and TO are in
-- microseconds, voltages in millivolts, currents in milliamperes, where no unit stands behind the number. POWER has its unit.
-- What stands behind a word that begins with # is passed over.
use Rattle.std.specs.Prelude.{ℕ, ◌+◌, ◌==◌, Bool, true, false, List, [], ◌∷◌, ◌++◌, find, take, drop, codes, Option, Some, None, option_map}
use Rattle.std.specs.Prelude.{length, option_and_then}
use Rattle.std.specs.Prelude.{bytes_eq, nat_le, nat_lt, is_some, ◌&&◌, ◌||◌, if◌then◌else◌}
use Rattle.std.specs.List.{position_from}
use Rattle.std.specs.Option.{option_map_or}
use Rattle.pd_header.specs.declared.kind.Kind.{Kind}
use Rattle.pd_header.specs.declared.side.Side.{Side}
use Rattle.pd_header.specs.declared.side.Side.TheVariants.{Source, Sink, Plug}
use Rattle.pd_header.specs.Kinds.{name_of, control_messages, data_messages}
use Rattle.pd_line.specs.declared.notes.Fault.{Fault}
use Rattle.pd_edit_lines.specs.Words.{end_of, words, number, next, number_at, ◌>>=◌}
use Rattle.pd_expect.specs.FaultTexts.{is_fault_text, is_told_so}
use Rattle.pd_expect.specs.declared.lines.Expectation.{Expectation}
use Rattle.pd_expect.specs.declared.lines.Expectation.TheVariants as expect
use Rattle.pd_expect.specs.declared.lines.Lost.{Lost}
use Rattle.pd_expect.specs.declared.lines.Period.{Period}
use Rattle.pd_expect.specs.declared.lines.Wanted.{Wanted}
use Rattle.pd_expect.specs.declared.lines.Wanted.TheVariants as wanted
use Rattle.pd_expect.specs.declared.lines.TestLine.{TestLine}
use Rattle.pd_expect.specs.declared.lines.TestLine.TheVariants as line_is
use Rattle.pd_expect.specs.declared.span.Span.{Span}
use Rattle.pd_units.specs.Quantities.{number_in}
use Rattle.pd_units.specs.declared.unit.Unit.{Unit}
use Rattle.pd_units.specs.declared.unit.Unit.TheVariants.{Microseconds, Millivolts, Milliamperes, Microwatts}

abbrev pub Words : Type 0
Words = List (List ℕ)

-- ---- words

-- the bytes before the one at a place, and those behind it
abbrev pub around : List ℕ → ℕ → List ℕ × List ℕ
around bytes place = (take place bytes, drop (place + 1) bytes)

-- the bytes before the first of a kind, and those behind it
abbrev pub cut : ℕ → List ℕ → Option (List ℕ × List ℕ)
cut byte bytes = option_map (around bytes) (position_from (λ other. other == byte) 0 bytes)

abbrev pub is_comment : List ℕ → Bool
is_comment [] = false
is_comment (c ∷ cs) = c == 35

-- the line is over, or what is left of it is a comment
abbrev pub is_over : Words → Bool
is_over [] = true
is_over (word ∷ more) = is_comment word

abbrev pub alone : {A : Type 0} → A → Words → Option A
alone a ws = if is_over ws then Some a else None

-- what stands behind a word
abbrev pub after_word : List ℕ → Words → Option Words
after_word word [] = None
after_word word (first ∷ more) = if bytes_eq first word then Some more else None

-- ---- ranges

abbrev pub is_within : Span → ℕ → Bool
is_within span n = nat_le span.from n && nat_le n span.to

-- any number of 64 bits
abbrev pub any_span : Span
any_span = record { from = 0; to = 18446744073709551615 }

abbrev pub one_span : ℕ → Span
one_span n = record { from = n; to = n }

-- what stands behind the second of two dots
abbrev pub behind_dot : List ℕ → Option (List ℕ)
behind_dot [] = None
behind_dot (c ∷ cs) = if c == 46 then Some cs else None

-- the first dot of a word is a decimal point, with this before it and that behind: its ends, around the two dots that come next
abbrev pub later_ends : List ℕ → List ℕ → List ℕ → Option (List ℕ × List ℕ)
later_ends word before behind = do
  next_dot ← cut 46 behind
  high ← behind_dot next_dot.1
  Some (take (length before + 1 + length next_dot.0) word, high)

abbrev pub ends_around : List ℕ → List ℕ → List ℕ → Option (List ℕ) → Option (List ℕ × List ℕ)
ends_around word before behind (Some high) = Some (before, high)
ends_around word before behind None = later_ends word before behind

-- the ends of `A..B`, around its two dots; A may have a decimal point
abbrev pub ends_of : List ℕ → Option (List ℕ × List ℕ)
ends_of word = do
  dot ← cut 46 word
  ends_around word dot.0 dot.1 (behind_dot dot.1)

abbrev pub two_ends : Unit → List ℕ → List ℕ → Option Span
two_ends unit low high = do
  from ← number_in unit low
  to ← number_in unit high
  Some (record { from = from; to = to })

abbrev pub span_from : Unit → List ℕ → Option (List ℕ × List ℕ) → Option Span
span_from unit word None = option_map one_span (number_in unit word)
span_from unit word (Some ends) = two_ends unit ends.0 ends.1

-- A, or A..B
abbrev pub span_of : Unit → List ℕ → Option Span
span_of unit word = span_from unit word (ends_of word)

abbrev pub span_at : Unit → Words → Option (Span × Words)
span_at unit ws = do
  w ← next ws
  s ← span_of unit w.0
  Some (s, w.1)

-- a range behind a word, or any number where the word isn't there
abbrev pub optional_span : List ℕ → Unit → Words → Option (Span × Words)
optional_span word unit [] = Some (any_span, [])
optional_span word unit (first ∷ more) = if bytes_eq first word then span_at unit more else Some (any_span, first ∷ more)

-- ---- numbers with their units

-- a power, but for one that is a bare number
abbrev pub with_unit_of : List ℕ → Option ℕ → Option ℕ
with_unit_of word None = number_in Microwatts word
with_unit_of word (Some bare) = None

abbrev pub quantity_at : Unit → Words → Option (ℕ × Words)
quantity_at unit ws = do
  w ← next ws
  n ← number_in unit w.0
  Some (n, w.1)

-- ---- names

abbrev pub side_named : List ℕ → Option Side
side_named word =
    if bytes_eq word (codes "src") then Some Source
    else if bytes_eq word (codes "snk") then Some Sink
    else if bytes_eq word (codes "cbl") then Some Plug
    else None

-- the kind of message of a name, as a transcript has it
abbrev pub kind_named : List ℕ → Option Kind
kind_named word = find (λ kind. bytes_eq (name_of kind) word) (control_messages ++ data_messages)

abbrev pub kind_at : Words → Option (Kind × Words)
kind_at ws = do
  w ← next ws
  k ← kind_named w.0
  Some (k, w.1)

-- ---- expectations

-- behind a word that stands before a time
abbrev pub to_time : ℕ → Words → Option (Period × Words)
to_time from ws = do
  to ← quantity_at Microseconds ws
  Some (record { from = from; to = Some to.0 }, to.1)

abbrev pub at_time : Words → Option (Period × Words)
at_time ws = do
  at ← quantity_at Microseconds ws
  Some (record { from = at.0; to = Some at.0 }, at.1)

-- where the second end is left out, it is the run's
abbrev pub from_with : ℕ → Words → Option Words → Option (Period × Words)
from_with from ws None = Some (record { from = from; to = None }, ws)
from_with from ws (Some behind) = to_time from behind

abbrev pub from_time : Words → Option (Period × Words)
from_time ws = do
  from ← quantity_at Microseconds ws
  from_with from.0 from.1 (after_word (codes "to") from.1)

abbrev pub period_by : List ℕ → Words → Option (Period × Words)
period_by word ws =
    if bytes_eq word (codes "at") then at_time ws
    else if bytes_eq word (codes "from") then from_time ws
    else if bytes_eq word (codes "to") then to_time 0 ws
    else None

-- an instant, or the instants from one to another
abbrev pub period_at : Words → Option (Period × Words)
period_at ws = do
  w ← next ws
  period_by w.0 w.1

-- a power, which has its unit
abbrev pub power_at : Words → Option (ℕ × Words)
power_at ws = do
  w ← next ws
  n ← with_unit_of w.0 (number w.0)
  Some (n, w.1)

-- at least so much power in microwatts, and none where the word isn't there
abbrev pub optional_power : Words → Option (ℕ × Words)
optional_power [] = Some (0, [])
optional_power (first ∷ more) =
    if bytes_eq first (codes "power") then option_and_then power_at (after_word (codes "at_least") more) else Some (0, first ∷ more)

abbrev pub contract_of : Words → Option Expectation
contract_of ws = do
  port ← number_at ws
  period ← period_at port.1
  voltage ← optional_span (codes "voltage") Millivolts period.1
  current ← optional_span (codes "current") Milliamperes voltage.1
  power ← optional_power current.1
  alone (expect.Contract port.0 period.0 (wanted.Such voltage.0 current.0 power.0)) power.1

abbrev pub no_contract_of : Words → Option Expectation
no_contract_of ws = do
  port ← number_at ws
  period ← period_at port.1
  alone (expect.Contract port.0 period.0 wanted.Nothing) period.1

abbrev pub margin_over : ℕ → Words → Option Expectation
margin_over least ws = do
  period ← period_at ws
  alone (expect.MarginOver period.0 least) period.1

-- of the whole run where no time is named
abbrev pub margin_in : ℕ → Words → Option Expectation
margin_in least ws = if is_over ws then Some (expect.Margin least) else margin_over least ws

abbrev pub margin_of : Words → Option Expectation
margin_of ws = do
  named ← after_word (codes "at_least") ws
  least ← power_at named
  margin_in least.0 least.1

-- the number of a margin whose unit is left out, by what stands behind `expect`
abbrev pub bare_margin : Words → Option ℕ
bare_margin ws = do
  margin ← after_word (codes "margin") ws
  named ← after_word (codes "at_least") margin
  bare ← number_at named
  margin ← margin_in bare.0 bare.1
  Some bare.0

-- what stands in the first quotation marks of a line, and what stands behind them
abbrev pub quoted : List ℕ → Option (List ℕ × List ℕ)
quoted line = do
  opened ← cut 34 line
  cut 34 opened.1

abbrev pub fault_of : List ℕ → Words → Option Expectation
fault_of line ws = do
  port ← number_at ws
  inside ← quoted line
  alone (expect.Fault port.0) (words inside.1)

-- a port, where there is one
abbrev pub port_or : Words → Words → Option ℕ → Option ℕ × Words
port_or ws more None = (None, ws)
port_or ws more (Some port) = (Some port, more)

abbrev pub optional_port : Words → Option ℕ × Words
optional_port [] = (None, [])
optional_port (word ∷ more) = port_or (word ∷ more) more (number word)

abbrev pub opens : List ℕ → Bool
opens [] = false
opens (c ∷ cs) = c == 34

-- whether the line has words in quotation marks here, and what stands behind them
abbrev pub quoted_here : List ℕ → Option (Bool × Words)
quoted_here line = do
  inside ← quoted line
  Some (true, words inside.1)

abbrev pub optional_text : List ℕ → Words → Option (Bool × Words)
optional_text line [] = Some (false, [])
optional_text line (word ∷ more) = if opens word then quoted_here line else Some (false, word ∷ more)

abbrev pub whole_run : Period
whole_run = record { from = 0; to = None }

abbrev pub optional_period : Words → Option (Period × Words)
optional_period ws = if is_over ws then Some (whole_run, ws) else period_at ws

abbrev pub told_in : Option ℕ → Bool × Words → Option Expectation
told_in port told = do
  period ← optional_period told.1
  alone (expect.NoFault port told.0 period.0) period.1

abbrev pub no_fault_on : List ℕ → Option ℕ × Words → Option Expectation
no_fault_on line port = do
  told ← optional_text line port.1
  told_in port.0 told

abbrev pub no_fault_of : List ℕ → Words → Option Expectation
no_fault_of line ws = no_fault_on line (optional_port ws)

-- by the word behind `no`
abbrev pub no_named : List ℕ → List ℕ → Words → Option Expectation
no_named line word ws =
    if bytes_eq word (codes "contract") then no_contract_of ws
    else if bytes_eq word (codes "fault") then no_fault_of line ws
    else None

abbrev pub no_of : List ℕ → Words → Option Expectation
no_of line ws = do
  named ← next ws
  no_named line named.0 named.1

-- what stands in the quotation marks of a line, and nothing where it has none
abbrev pub words_of : Option (List ℕ × List ℕ) → List ℕ
words_of None = []
words_of (Some it) = it.0

-- and what stands behind them
abbrev pub behind_of : Option (List ℕ × List ℕ) → List ℕ
behind_of None = []
behind_of (Some it) = it.1

-- `but "WORDS"`: the words, and what stands behind them
abbrev pub but_at : List ℕ → Option (List ℕ × List ℕ)
but_at line = do
  opened ← cut 34 line
  named ← after_word (codes "but") (words opened.0)
  nothing ← end_of named
  cut 34 opened.1

-- what stands behind some of these, at most as many as the first text has bytes
unfoldable pub behind_buts : List ℕ → List ℕ → List ℕ
behind_buts [] line = line
behind_buts (byte ∷ more) line = option_map_or (λ but. behind_buts more but.1) (but_at line) line

-- whether a fault is told in the words of one of them
unfoldable pub is_but : List ℕ → List ℕ → Fault → Bool
is_but [] line fault = false
is_but (byte ∷ more) line fault = option_map_or (λ but. is_told_so but.0 fault || is_but more but.1 fault) (but_at line) false

abbrev pub is_excepted : Option (List ℕ × List ℕ) → Fault → Bool
is_excepted inside fault = is_told_so (words_of inside) fault || is_but (behind_of inside) (behind_of inside) fault

-- the first of their words in which no fault is told
unfoldable pub wrong_but : List ℕ → List ℕ → Option (List ℕ)
wrong_but [] line = None
wrong_but (byte ∷ more) line =
    option_map_or (λ but. if is_fault_text but.0 then wrong_but more but.1 else Some but.0) (but_at line) None

-- the line is over behind all of them
abbrev pub all_buts : ℕ → ℕ → List ℕ → Option Expectation
all_buts port most rest = alone (expect.FaultsAtMost port most true) (words (behind_buts rest rest))

abbrev pub quoted_buts : List ℕ → ℕ → ℕ → Option (List ℕ × Words) → Option Expectation
quoted_buts line port most None = None
quoted_buts line port most (Some first) = if opens first.0 then all_buts port most (behind_of (quoted line)) else None

abbrev pub with_buts : List ℕ → ℕ → ℕ → Words → Option Expectation
with_buts line port most ws = do
  named ← after_word (codes "but") ws
  quoted_buts line port most (next named)

abbrev pub most_but : List ℕ → ℕ → ℕ → Words → Option Expectation
most_but line port most ws = if is_over ws then Some (expect.FaultsAtMost port most false) else with_buts line port most ws

abbrev pub at_most_of : List ℕ → Words → Option Expectation
at_most_of line ws = do
  port ← number_at ws
  named ← after_word (codes "at_most") port.1
  most ← number_at named
  most_but line port.0 most.0 most.1

-- `none`, or a port and how many
abbrev pub faults_of : List ℕ → Words → Option Expectation
faults_of line [] = None
faults_of line (word ∷ more) = if bytes_eq word (codes "none") then alone expect.NoFaults more else at_most_of line (word ∷ more)

-- an expectation of what the line has in quotation marks
abbrev pub has_text : Expectation → Bool
has_text (expect.Fault port) = true
has_text (expect.NoFault port told period) = told
has_text (expect.FaultsAtMost port most but) = but
has_text _ = false

-- words of the line in which no fault is told, behind `but` or the first; those behind a comment's mark are none
abbrev pub wrong_text : Option (List ℕ × List ℕ) → Option (List ℕ)
wrong_text inside =
    if is_fault_text (words_of inside) then wrong_but (behind_of inside) (behind_of inside) else Some (words_of inside)

abbrev pub is_of_no_fault : List ℕ → Expectation → Bool
is_of_no_fault line expectation = has_text expectation && is_some (wrong_text (quoted line))

abbrev pub packet_of : Words → Option Expectation
packet_of ws = do
  port ← number_at ws
  named ← next port.1
  side ← side_named named.0
  kind ← kind_at named.1
  between ← after_word (codes "between") kind.1
  from ← quantity_at Microseconds between
  to ← quantity_at Microseconds from.1
  alone (expect.Packet port.0 side kind.0 from.0 to.0) to.1

abbrev pub expectation_named : List ℕ → List ℕ → Words → Option Expectation
expectation_named line word ws =
    if bytes_eq word (codes "contract") then contract_of ws
    else if bytes_eq word (codes "no") then no_of line ws
    else if bytes_eq word (codes "margin") then margin_of ws
    else if bytes_eq word (codes "faults") then faults_of line ws
    else if bytes_eq word (codes "fault") then fault_of line ws
    else if bytes_eq word (codes "packet") then packet_of ws
    else None

-- what stands behind `expect`
abbrev pub expectation_of : List ℕ → Words → Option Expectation
expectation_of line ws = do
  w ← next ws
  expectation_named line w.0 w.1

-- what stands behind `lose`
abbrev pub lost_of : Words → Option Lost
lost_of ws = do
  nth ← number_at ws
  kind ← kind_at nth.1
  of_it ← after_word (codes "of") kind.1
  named ← after_word (codes "port") of_it
  port ← number_at named
  alone (record { nth = nth.0; kind = kind.0; port = port.0 }) port.1

-- ---- ranges that end before they begin

abbrev pub if_empty : Span → Option Span
if_empty span = if nat_lt span.to span.from then Some span else None

abbrev pub first_span : Option Span → Option Span → Option Span
first_span None other = other
first_span (Some span) other = Some span

abbrev pub empty_ends : ℕ → Option ℕ → Option Span
empty_ends from None = None
empty_ends from (Some to) = if_empty (record { from = from; to = to })

abbrev pub empty_wanted : Wanted → Option Span
empty_wanted (wanted.Such voltage current least) = first_span (if_empty voltage) (if_empty current)
empty_wanted wanted.Nothing = None

-- the first range of an expectation in which no number is
abbrev pub empty_span : Expectation → Option Span
empty_span (expect.Contract port period wants) = first_span (empty_ends period.from period.to) (empty_wanted wants)
empty_span (expect.MarginOver period least) = empty_ends period.from period.to
empty_span (expect.NoFault port told period) = empty_ends period.from period.to
empty_span (expect.Packet port side kind from to) = if_empty (record { from = from; to = to })
empty_span _ = None

-- ---- lines

-- an expectation is one where numbers are in its ranges
abbrev pub ranged : Expectation → Option Span → TestLine
ranged expectation None = line_is.Expect expectation
ranged expectation (Some span) = line_is.EmptyRange span

-- what is none may be a margin without its unit
abbrev pub no_expectation : Option ℕ → TestLine
no_expectation None = line_is.NoTest
no_expectation (Some bare) = line_is.BareMargin bare

abbrev pub expect_line : List ℕ → Option Expectation → Option ℕ → TestLine
expect_line line None bare = no_expectation bare
expect_line line (Some expectation) bare =
    if is_of_no_fault line expectation then line_is.NoFaultText else ranged expectation (empty_span expectation)

abbrev pub lose_line : Option Lost → TestLine
lose_line None = line_is.NoTest
lose_line (Some lost) = line_is.Lose lost

abbrev pub line_named : List ℕ → Option (List ℕ × Words) → TestLine
line_named line None = line_is.Edit
line_named line (Some first) =
    if bytes_eq first.0 (codes "expect") then expect_line line (expectation_of line first.1) (bare_margin first.1)
    else if bytes_eq first.0 (codes "lose") then lose_line (lost_of first.1)
    else line_is.Edit

-- what a line of a test script is; one that begins with neither word is a line of an edit script
unfoldable pub test_line : List ℕ → TestLine
test_line line = line_named line (next (words line))
