-- A text as a JSON string: RFC 8259, 7 and 8.1.
use Rattle.std.specs.Prelude.{ℕ, ◌+◌, ◌/◌, ◌%◌, ◌==◌, nat_lt, List, [], ◌∷◌, ◌++◌, codes, if◌then◌else◌}
use Rattle.std.specs.List.{flat_map}
use Rattle.std.specs.Str.{is_utf8}

abbrev pub hex_digit : ℕ → ℕ
hex_digit n = if nat_lt n 10 then 48 + n else 87 + n

-- quotes and backslashes stand behind a backslash, a control character as its number; every other byte stands for itself
abbrev pub escaped_byte : ℕ → List ℕ
escaped_byte byte =
    if byte == 34 then codes "\\\"" else if byte == 92 then codes "\\\\"
    else if nat_lt byte 32 then codes "\\u00" ++ (hex_digit (byte / 16) ∷ hex_digit (byte % 16) ∷ []) else byte ∷ []

abbrev pub escaped : List ℕ → List ℕ
escaped words = flat_map escaped_byte words

-- a byte beyond ASCII is a question mark
abbrev pub ascii_byte : ℕ → List ℕ
ascii_byte byte = if nat_lt byte 128 then escaped_byte byte else 63 ∷ []

abbrev pub ascii : List ℕ → List ℕ
ascii words = flat_map ascii_byte words

-- a text that is no UTF-8 is shown in ASCII alone
abbrev pub shown : List ℕ → List ℕ
shown words = if is_utf8 words then escaped words else ascii words

unfoldable pub string_text : List ℕ → List ℕ
string_text words = 34 ∷ (shown words ++ 34 ∷ [])
