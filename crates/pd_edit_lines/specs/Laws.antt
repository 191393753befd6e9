-- That the table of rows is the grammar of lines.
use Rattle.std.specs.Prelude.{◌≡◌, ℕ, Bool, false, ◌&&◌, ◌||◌, nat_le, List, [], ◌∷◌, length}
use Rattle.std.specs.Result.{is_ok}
use Rattle.pd_edit_lines.specs.Words.{words}
use Rattle.pd_edit_lines.specs.Grammar.{Words, are_spaces, is_comment, line_of}
use Rattle.pd_edit_lines.specs.declared.rows.Front.{Front}
use Rattle.pd_edit_lines.specs.declared.rows.Front.TheVariants as front
use Rattle.pd_edit_lines.specs.Stops.{stop_from}
use Rattle.pd_edit_lines.specs.Table.{may_end}

-- no word is left, and the line may end there
abbrev pub ends_well : Front × Words → Bool
ends_well (front, []) = may_end front
ends_well (front, word ∷ ws) = false

-- the line is one of the table's
abbrev pub is_of_table : List ℕ → Bool
is_of_table line = ends_well (stop_from front.Start (words line))

-- A line is read, and not refused with 20, exactly where it is skipped, or has at most 256 bytes and is one of the table's.
abbrev pub TableIsGrammar : Type 0
TableIsGrammar =
    (line : List ℕ)
    → is_ok (line_of line) ≡ ((is_comment line || are_spaces line) || (nat_le (length line) 256 && is_of_table line))
