-- The first lines of what is told of a file, as far as they are kept.
use Rattle.std.specs.Prelude.{ℕ, nat_lt, Bool, List, [], ◌∷◌, ◌++◌, length, filter, fold, if◌then◌else◌}
use Rattle.pd_misfits.specs.Texts.{ends_line}

abbrev pub line_count : List ℕ → ℕ
line_count text = length (filter ends_line text)

-- so many places are told at most
abbrev pub most_places : ℕ
most_places = 20

-- there are more lines than are told
abbrev pub is_full : List ℕ → Bool
is_full text = nat_lt most_places (line_count text)

-- one more byte, where there aren't more lines than are told already
abbrev pub with_byte : List ℕ → ℕ → List ℕ
with_byte text byte = if is_full text then text else text ++ byte ∷ []

-- more of a text: of all of it the lines that are told are kept, and one behind them
unfoldable pub added : List ℕ → List ℕ → List ℕ
added text more = fold with_byte text more
