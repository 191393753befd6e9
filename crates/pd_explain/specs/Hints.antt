-- Which word, or which number, may have been meant where a line stops to be one of an edit script, docs/FORMATS.md, "Hints".
use Rattle.std.specs.Prelude.{ℕ, ◌&&◌, nat_lt, List, [], ◌∷◌, ◌++◌, length, codes, Option, None, Some, if◌then◌else◌}
use Rattle.pd_hints.specs.Slips.{is_slip, nearest, meant_text}
use Rattle.pd_edit_lines.specs.Grammar.{Words}
use Rattle.pd_edit_lines.specs.declared.rows.Front.{Front}
use Rattle.pd_edit_lines.specs.declared.rows.Row.{Row}
use Rattle.pd_edit_lines.specs.declared.slot.Slot.{Slot}
use Rattle.pd_edit_lines.specs.declared.slot.Slot.TheVariants as slot
use Rattle.pd_edit_lines.specs.Slots.{keyword_of}
use Rattle.pd_edit_lines.specs.Table.{rows}
use Rattle.pd_units.specs.Readings.{unit_at, word_in}

abbrev pub plug_words : List (List ℕ)
plug_words = codes "none" ∷ codes "ack" ∷ codes "nak" ∷ codes "busy" ∷ codes "silent" ∷ []

abbrev pub mode_words : List (List ℕ)
mode_words = codes "pd" ∷ codes "plain" ∷ codes "greedy" ∷ []

-- a word that stands for itself, of which a word is a slip; of another form there is none
abbrev pub near_keyword : List ℕ → List ℕ → Option (List ℕ)
near_keyword word keyword = if nat_lt 0 (length keyword) && is_slip word keyword then Some keyword else None

-- the first word that may stand at a place of which a word is a slip
unfoldable pub near_slot : List ℕ → Slot → Option (List ℕ)
near_slot word slot.Plug = nearest word plug_words
near_slot word slot.Mode = nearest word mode_words
near_slot word place = near_keyword word (keyword_of place)

abbrev pub or_later : Option (List ℕ) → Option (List ℕ) → Option (List ℕ)
or_later None later = later
or_later (Some word) later = Some word

-- the first of what may follow
unfoldable pub near_word : List ℕ → List Row → Option (List ℕ)
near_word word [] = None
near_word word (row ∷ others) = or_later (near_slot word row.slot) (near_word word others)

-- a word with a unit behind it, where the first of what may follow is a number of that kind
abbrev pub first_reading : List ℕ → List Row → List ℕ
first_reading word [] = []
first_reading word (row ∷ others) = word_in (unit_at row.slot) word

-- the first of the words that are left, where a line stops
abbrev pub stop_hint : Front → Words → List ℕ
stop_hint front [] = []
stop_hint front (word ∷ ws) = meant_text (near_word word (rows front)) ++ first_reading word (rows front)
