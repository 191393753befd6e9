-- A page in which a scenario and a script stand: docs/FORMATS.md, "Program". They stand in a data block of HTML, an element of script
-- that holds an object of JSON and no script.
use Rattle.std.specs.Prelude.{◌≡◌, ℕ, ◌+◌, ◌==◌, true, not, List, [], ◌∷◌, ◌++◌, Option, None, Some, codes, drop, length, take}
use Rattle.std.specs.Prelude.{if◌then◌else◌}
use Rattle.std.specs.List.{flat_map, list_all}
use Rattle.memchr.specs.Find.{FindsNeedle}
use Rattle.pd_text.specs.Strings.{string_text}

-- ---- what is put into the page

-- an object of three texts
abbrev pub given_object : List ℕ → List ℕ → List ℕ → List ℕ
given_object name scenario script = codes "{\"name\":" ++ (string_text name ++ (codes ",\"scenario\":" ++ (string_text scenario
    ++ (codes ",\"script\":" ++ (string_text script ++ codes "}")))))

-- In a JSON string `\u003c` is as well `<`: so no element ends there, and none begins.
abbrev pub unclosed_byte : ℕ → List ℕ
unclosed_byte byte = if byte == 60 then codes "\\u003c" else byte ∷ []

unfoldable pub unclosed : List ℕ → List ℕ
unclosed text = flat_map unclosed_byte text

abbrev pub NothingIsClosed : Type 0
NothingIsClosed = (text : List ℕ) → list_all (λ byte. not (byte == 60)) (unclosed text) ≡ true

-- ---- where it is put

-- the beginning of the data block, and the whole of it, which is empty
abbrev pub opening : List ℕ
opening = codes "<script type=\"application/json\" id=\"given\">"

abbrev pub place : List ℕ
place = opening ++ codes "</script>"

-- The page's bytes with these in their first place, between the beginning of the data block and its end; a page without such a place
-- is none.
abbrev pub IsFilled : List ℕ → List ℕ → Option (List ℕ) → Type 0
IsFilled page held None = FindsNeedle page place 0 None
IsFilled page held (Some filled) = (at : ℕ) × FindsNeedle page place 0 (Some at)
    × (filled ≡ take (at + length opening) page ++ (held ++ drop (at + length opening) page))
