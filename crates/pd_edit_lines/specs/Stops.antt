-- Where a line stops to be one of an edit script.
use Rattle.std.specs.Prelude.{ℕ, List, [], ◌∷◌, find, Option, option_map, unwrap_or}
use Rattle.pd_edit_lines.specs.Grammar.{Words}
use Rattle.pd_edit_lines.specs.declared.rows.Front.{Front}
use Rattle.pd_edit_lines.specs.declared.rows.Row.{Row}
use Rattle.pd_edit_lines.specs.Slots.{fits}
use Rattle.pd_edit_lines.specs.Table.{rows}

-- the beginning that one more word makes, where the word may stand there
abbrev pub next_front : Front → List ℕ → Option Front
next_front front word = option_map (λ (row : Row). row.to) (find (λ (row : Row). fits row.slot word) (rows front))

-- what stands at the beginning, and the words from the first one on that may not stand behind it
abbrev pub stop_from : Front → Words → Front × Words
stop_from front [] = (front, [])
stop_from front (word ∷ ws) = unwrap_or (option_map (λ to. stop_from to ws) (next_front front word)) (front, word ∷ ws)
