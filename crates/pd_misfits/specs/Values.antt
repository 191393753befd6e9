-- What stands at a key, as it is shown.
use Rattle.std.specs.Prelude.{ℕ, true, false, nat_le, ◌&&◌, List, [], ◌∷◌, ◌++◌, map, codes, if◌then◌else◌}
use Rattle.std.specs.Fmt.{signed_decimal}
use Rattle.toml.specs.Data.{Data, string, integer, float, boolean, datetime, array, table}

-- a byte as it is shown: what is no printable ASCII character is a question mark
abbrev pub printable : ℕ → ℕ
printable byte = if nat_le 32 byte && nat_le byte 126 then byte else 63

unfoldable pub quoted : List ℕ → List ℕ
quoted word = 96 ∷ (map printable word ++ 96 ∷ [])

-- a word as it is shown without quotes
abbrev pub shown : List ℕ → List ℕ
shown word = map printable word

abbrev pub value_text : Data → List ℕ
value_text (string s) = quoted s
value_text (integer z) = signed_decimal z
value_text (float x) = codes "a fraction"
value_text (boolean true) = codes "true"
value_text (boolean false) = codes "false"
value_text (datetime dt) = codes "a date or a time"
value_text (array ds) = codes "a list"
value_text (table ms) = codes "a table"
