-- The lines of a test script, and the scenario that they name.
use Rattle.std.specs.Prelude.{ℕ, ◌-◌, ◌&&◌, nat_lt, Bool, false, List, [], ◌∷◌, length, take, drop, codes, bytes_eq}
use Rattle.std.specs.Prelude.{if◌then◌else◌, Option, Some, None}
use Rattle.std.specs.Char.{is_ascii_whitespace}
use Rattle.std.specs.List.{prefix_len, suffix_len}
use Rattle.std.specs.Str.Lines.{lines}
use Rattle.pd_edit_lines.specs.Words.{◌>>=◌}

-- ---- lines

abbrev pub begins : List ℕ → List ℕ → Bool
begins bytes text = bytes_eq (take (length bytes) text) bytes

-- that of UTF-8
abbrev pub byte_order_mark : List ℕ
byte_order_mark = 239 ∷ 187 ∷ 191 ∷ []

abbrev pub without_mark : List ℕ → List ℕ
without_mark script = if begins byte_order_mark script then drop 3 script else script

-- a byte order mark before the first is passed over
abbrev pub script_lines : List ℕ → List (List ℕ)
script_lines script = lines (without_mark script)

-- ---- the scenario

-- what stands behind these bytes, where the text begins with them
abbrev pub behind : List ℕ → List ℕ → Option (List ℕ)
behind bytes text = if begins bytes text then Some (drop (length bytes) text) else None

-- without the blanks at its beginning, at its end, and at both
abbrev pub trim_start : List ℕ → List ℕ
trim_start text = drop (prefix_len is_ascii_whitespace text) text

abbrev pub trim_end : List ℕ → List ℕ
trim_end text = take (length text - suffix_len is_ascii_whitespace text) text

abbrev pub trim : List ℕ → List ℕ
trim text = trim_end (trim_start text)

abbrev pub is_apart : List ℕ → Bool
is_apart [] = false
is_apart (byte ∷ more) = is_ascii_whitespace byte

-- what stands behind a blank, to the end of the line
abbrev pub file_in : List ℕ → Option (List ℕ)
file_in rest = if is_apart rest && nat_lt 0 (length (trim rest)) then Some (trim rest) else None

-- # scenario FILE, which is a comment of an edit script
abbrev pub named_by : List ℕ → Option (List ℕ)
named_by line = do
  comment ← behind (codes "#") line
  rest ← behind (codes "scenario") (trim_start comment)
  file_in rest

abbrev pub or_else : Option (List ℕ) → Option (List ℕ) → Option (List ℕ)
or_else None other = other
or_else (Some file) other = Some file

-- the file of the first line that names one
unfoldable pub scenario_name : List (List ℕ) → Option (List ℕ)
scenario_name [] = None
scenario_name (line ∷ lines) = or_else (named_by line) (scenario_name lines)
