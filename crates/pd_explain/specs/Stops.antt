-- What is said of a line that is none of an edit script: this product's own form, docs/FORMATS.md, "Reasons".
use Rattle.std.specs.Prelude.{ℕ, ◌+◌, ◌-◌, ◌&&◌, Bool, true, false, nat_le, nat_lt, List, [], ◌∷◌, ◌++◌, length, map, codes, decimal}
use Rattle.std.specs.Prelude.{if◌then◌else◌}
use Rattle.std.specs.List.{flat_map}
use Rattle.pd_edit_lines.specs.Words.{words}
use Rattle.pd_edit_lines.specs.Grammar.{Words}
use Rattle.pd_edit_lines.specs.declared.rows.Front.{Front}
use Rattle.pd_edit_lines.specs.declared.rows.Front.TheVariants as front
use Rattle.pd_edit_lines.specs.declared.rows.Row.{Row}
use Rattle.pd_edit_lines.specs.Slots.{text_of}
use Rattle.pd_edit_lines.specs.Stops.{stop_from}
use Rattle.pd_edit_lines.specs.Table.{rows}
use Rattle.pd_explain.specs.Hints.{stop_hint}

-- a line may end behind such a beginning
abbrev pub may_end : Front → Bool
may_end front.Whole = true
may_end front.SinkRevision = true
may_end front.SecondMv = true
may_end front.ThirdMv = true
may_end front.FourthMv = true
may_end front.FifthMv = true
may_end front.SixthMv = true
may_end front.SeventhMv = true
may_end _ = false

-- what may stand there, with a comma behind each
abbrev pub row_text : Row → List ℕ
row_text row = text_of row.slot ++ codes ", "

abbrev pub choices : Front → List ℕ
choices front = flat_map row_text (rows front)

-- the end is among it where the line may end
unfoldable pub end_text : Front → List ℕ
end_text front = if may_end front then codes "the end, found " else codes "found "

-- what was expected
unfoldable pub expected_text : Front → List ℕ
expected_text front = codes ": expected " ++ (choices front ++ end_text front)

-- a word as it is shown: what is no visible ASCII character is a question mark
abbrev pub visible : ℕ → ℕ
visible byte = if nat_le 33 byte && nat_le byte 126 then byte else 63

abbrev pub found_text : Words → List ℕ
found_text [] = codes "the end"
found_text (word ∷ ws) = 96 ∷ (map visible word ++ 96 ∷ [])

-- the place of the first of the words that are left, among all, from 1
abbrev pub word_place : Words → Words → ℕ
word_place all left = (length all - length left) + 1

unfoldable pub stop_text : Words → Front × Words → List ℕ
stop_text all (front, left) = codes "word " ++ (decimal (word_place all left) ++ (expected_text front ++ found_text left))

unfoldable pub too_long_text : ℕ → List ℕ
too_long_text bytes = codes "the line has " ++ (decimal bytes ++ codes " bytes, above 256")

-- a line is too long, or stops at a word
unfoldable pub syntax_text : List ℕ → List ℕ
syntax_text line =
    if nat_lt 256 (length line) then too_long_text (length line)
    else stop_text (words line) (stop_from front.Start (words line))

-- which word may have been meant where it stops
abbrev pub hint_at : Front × Words → List ℕ
hint_at (front, left) = stop_hint front left

unfoldable pub syntax_hint : List ℕ → List ℕ
syntax_hint line = if nat_lt 256 (length line) then [] else hint_at (stop_from front.Start (words line))
