-- Where a line that begins with `expect` or `lose` stops to be one of a test script, and what is said of that: docs/LAB.md, "Tests".
use Rattle.std.specs.Prelude.{ℕ, ◌-◌, ◌&&◌, nat_lt, Bool, List, [], ◌∷◌, ◌++◌, length, map, take, find, codes, decimal}
use Rattle.std.specs.Prelude.{Option, None, option_map, unwrap_or, if◌then◌else◌}
use Rattle.std.specs.List.{flat_map}
use Rattle.pd_edit_lines.specs.Words.{words}
use Rattle.pd_header.specs.Kinds.{name_of, control_messages, data_messages}
use Rattle.pd_hints.specs.Slips.{meant_text, nearest}
use Rattle.pd_explain.specs.Hints.{near_keyword, or_later}
use Rattle.pd_explain.specs.Stops.{found_text, word_place}
use Rattle.pd_expect.specs.Lines.{Words, is_over}
use Rattle.pd_expect.specs.Named.{begins}
use Rattle.pd_expect.specs.Slots.{fits, keyword_of, text_of}
use Rattle.pd_expect.specs.Table.{may_end, rows}
use Rattle.pd_expect.specs.declared.rows.Begun.{Begun}
use Rattle.pd_expect.specs.declared.rows.Begun.TheVariants as begun
use Rattle.pd_expect.specs.declared.rows.Row.{Row}
use Rattle.pd_expect.specs.declared.slot.Slot.{Slot}
use Rattle.pd_expect.specs.declared.slot.Slot.TheVariants as slot

-- ---- where a line stops

-- the beginning that one more word makes, where the word may stand there
abbrev pub next_begun : Begun → List ℕ → Option Begun
next_begun begun word = option_map (λ (row : Row). row.to) (find (λ (row : Row). fits row.slot word) (rows begun))

-- what stands at the beginning, and the words from the first one on that may not stand behind it
abbrev pub stop_from : Begun → Words → Begun × Words
stop_from begun [] = (begun, [])
stop_from begun (word ∷ ws) = unwrap_or (option_map (λ to. stop_from to ws) (next_begun begun word)) (begun, word ∷ ws)

-- ---- what is said of it

-- what may stand there, with a comma behind it; of words in quotation marks one is told for all
abbrev pub choice : Slot → List ℕ
choice slot.Opening = []
choice slot.Inner = []
choice place = text_of place ++ codes ", "

abbrev pub row_choice : Row → List ℕ
row_choice row = choice row.slot

-- the end is among it where the line may end
abbrev pub end_text : Begun → List ℕ
end_text begun = if may_end begun then codes "the end, found " else codes "found "

-- what was expected
unfoldable pub expected_text : Begun → List ℕ
expected_text begun = codes ": expected " ++ (flat_map row_choice (rows begun) ++ end_text begun)

-- a comment ends the line
abbrev pub found_there : Words → List ℕ
found_there ws = if is_over ws then codes "the end" else found_text ws

unfoldable pub stop_text : Words → Begun × Words → List ℕ
stop_text all (begun, left) = codes "word " ++ (decimal (word_place all left) ++ (expected_text begun ++ found_there left))

unfoldable pub line_stop_text : List ℕ → List ℕ
line_stop_text line = stop_text (words line) (stop_from begun.Start (words line))

-- ---- which word may have been meant

abbrev pub side_words : List (List ℕ)
side_words = codes "src" ∷ codes "snk" ∷ codes "cbl" ∷ []

unfoldable pub message_names : List (List ℕ)
message_names = map name_of (control_messages ++ data_messages)

-- a word of four letters or more, all but the last of which begin a longer one
abbrev pub is_short_for : List ℕ → List ℕ → Bool
is_short_for word name = nat_lt 3 (length word) && begins (take (length word - 1) word) name

-- the first name of which a word is a slip, or else the first for which it is short
abbrev pub near_name : List ℕ → List (List ℕ) → Option (List ℕ)
near_name word names = or_later (nearest word names) (find (is_short_for word) names)

unfoldable pub near_slot : List ℕ → Slot → Option (List ℕ)
near_slot word slot.Side = nearest word side_words
near_slot word slot.Name = near_name word message_names
near_slot word place = near_keyword word (keyword_of place)

-- the first of what may follow
unfoldable pub near_word : List ℕ → List Row → Option (List ℕ)
near_word word [] = None
near_word word (row ∷ others) = or_later (near_slot word row.slot) (near_word word others)

abbrev pub near_at : Begun × Words → Option (List ℕ)
near_at (begun, []) = None
near_at (begun, word ∷ ws) = near_word word (rows begun)

unfoldable pub line_stop_hint : List ℕ → List ℕ
line_stop_hint line = meant_text (near_at (stop_from begun.Start (words line)))
