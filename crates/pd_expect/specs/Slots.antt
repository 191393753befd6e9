-- What may stand at a place of a line that a test script has beside those of an edit script: docs/LAB.md, "Tests".
use Rattle.std.specs.Prelude.{ℕ, ◌==◌, List, [], codes, length, Option, Some, None, Bool, false, not, ◌&&◌, is_some, bytes_eq}
use Rattle.pd_edit_lines.specs.Words.{number}
use Rattle.pd_units.specs.Quantities.{number_in}
use Rattle.pd_units.specs.declared.unit.Unit.TheVariants.{Microseconds, Millivolts, Milliamperes}
use Rattle.pd_expect.specs.Lines.{cut, kind_named, opens, quoted, side_named, span_of, with_unit_of}
use Rattle.pd_expect.specs.declared.slot.Slot.{Slot}
use Rattle.pd_expect.specs.declared.slot.Slot.TheVariants as slot

-- the word that stands for itself; of another form none
abbrev pub keyword_of : Slot → List ℕ
keyword_of slot.Expect = codes "expect"
keyword_of slot.Lose = codes "lose"
keyword_of slot.Contract = codes "contract"
keyword_of slot.No = codes "no"
keyword_of slot.Margin = codes "margin"
keyword_of slot.Faults = codes "faults"
keyword_of slot.Fault = codes "fault"
keyword_of slot.Packet = codes "packet"
keyword_of slot.At = codes "at"
keyword_of slot.From = codes "from"
keyword_of slot.To = codes "to"
keyword_of slot.Voltage = codes "voltage"
keyword_of slot.Current = codes "current"
keyword_of slot.Power = codes "power"
keyword_of slot.AtLeast = codes "at_least"
keyword_of slot.NoFaults = codes "none"
keyword_of slot.AtMost = codes "at_most"
keyword_of slot.But = codes "but"
keyword_of slot.Between = codes "between"
keyword_of slot.Of = codes "of"
keyword_of slot.OnPort = codes "port"
keyword_of _ = []

-- how it is told: the word itself, or what form it has
abbrev pub text_of : Slot → List ℕ
text_of slot.Port = codes "PORT in 1 to 10 digits"
text_of slot.Nth = codes "NTH in 1 to 10 digits"
text_of slot.Number = codes "NUMBER in 1 to 10 digits"
text_of slot.Time = codes "a time in us, ms or s"
text_of slot.Volts = codes "RANGE as 9V or 9V..15V"
text_of slot.Amperes = codes "RANGE as 3A or 1A..3A"
text_of slot.Watts = codes "POWER in uW, mW or W"
text_of slot.Side = codes "src, snk, cbl"
text_of slot.Name = codes "the name of a message"
text_of slot.Text = codes "WORDS in quotation marks"
text_of slot.Closing = codes "a closing quotation mark"
text_of word = keyword_of word

-- ---- words in quotation marks: one word has both marks, or the first of several has one and the last the other

-- a mark is there, and nothing stands behind it
abbrev pub ends_there : Option (List ℕ × List ℕ) → Bool
ends_there None = false
ends_there (Some around) = length around.1 == 0

abbrev pub is_text : List ℕ → Bool
is_text word = opens word && ends_there (quoted word)

abbrev pub is_opening : List ℕ → Bool
is_opening word = opens word && not (is_some (quoted word))

-- it has one mark, the last byte
abbrev pub is_closing : List ℕ → Bool
is_closing word = ends_there (cut 34 word)

-- it has none
abbrev pub is_inner : List ℕ → Bool
is_inner word = not (is_some (cut 34 word))

-- the word may stand there
abbrev pub fits : Slot → List ℕ → Bool
fits slot.Port word = is_some (number word)
fits slot.Nth word = is_some (number word)
fits slot.Number word = is_some (number word)
fits slot.Time word = is_some (number_in Microseconds word)
fits slot.Volts word = is_some (span_of Millivolts word)
fits slot.Amperes word = is_some (span_of Milliamperes word)
fits slot.Watts word = is_some (with_unit_of word (number word))
fits slot.Side word = is_some (side_named word)
fits slot.Name word = is_some (kind_named word)
fits slot.Text word = is_text word
fits slot.Opening word = is_opening word
fits slot.Inner word = is_inner word
fits slot.Closing word = is_closing word
fits keyword word = bytes_eq word (keyword_of keyword)
