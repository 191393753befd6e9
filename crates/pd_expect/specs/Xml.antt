-- What stands in XML 1.0: https://www.w3.org/TR/xml, 2.2, 2.4 and 3.3.3.
use Rattle.std.specs.Prelude.{ℕ, ◌/◌, ◌%◌, ◌==◌, ◌&&◌, ◌||◌, nat_le, nat_lt, not, Bool, false, if◌then◌else◌}
use Rattle.std.specs.Prelude.{List, [], ◌∷◌, ◌++◌, codes, decimal}
use Rattle.std.specs.List.{flat_map}
use Rattle.std.specs.Str.{is_utf8}
use Rattle.pd_text.specs.Amounts.{digit_at}
use Rattle.pd_text.specs.Strings.{hex_digit}
use Rattle.pd_expect.specs.Named.{begins}
use Rattle.pd_expect.specs.declared.xml.Xml.{Xml}
use Rattle.pd_expect.specs.declared.xml.Xml.TheVariants as code

-- ---- a text

-- a control character that XML can't hold is told by its number, as in a JSON string
abbrev pub control_words : ℕ → List ℕ
control_words byte = codes "\\u00" ++ (hex_digit (byte / 16) ∷ hex_digit (byte % 16) ∷ [])

-- what means something in XML, and what a reader would take for a blank, stands as a reference
abbrev pub escaped_byte : ℕ → List ℕ
escaped_byte byte =
    if byte == 38 then codes "&amp;" else if byte == 60 then codes "&lt;" else if byte == 62 then codes "&gt;"
    else if byte == 34 then codes "&quot;" else if byte == 9 then codes "&#9;" else if byte == 10 then codes "&#10;"
    else if byte == 13 then codes "&#13;" else if nat_lt byte 32 then control_words byte else byte ∷ []

-- a byte beyond ASCII is a question mark, unless all of the text can stand in XML
abbrev pub shown_byte : Bool → ℕ → List ℕ
shown_byte is_whole byte = if nat_lt byte 128 then escaped_byte byte else if is_whole then byte ∷ [] else 63 ∷ []

-- the text begins with U+FFFE or U+FFFF, which XML can't hold
abbrev pub is_no_character : List ℕ → Bool
is_no_character text = begins (239 ∷ 191 ∷ 190 ∷ []) text || begins (239 ∷ 191 ∷ 191 ∷ []) text

unfoldable pub has_no_character : List ℕ → Bool
has_no_character [] = false
has_no_character (byte ∷ more) = is_no_character (byte ∷ more) || has_no_character more

-- all of the text beyond ASCII can stand in XML
abbrev pub is_held : List ℕ → Bool
is_held text = is_utf8 text && not (has_no_character text)

unfoldable pub escaped : List ℕ → List ℕ
escaped text = flat_map (shown_byte (is_held text)) text

-- the byte begins or ends no element and no attribute, and is no control character
abbrev pub is_inner : ℕ → Bool
is_inner byte = not (byte == 60 || byte == 62 || byte == 34) && nat_le 32 byte

-- ---- pieces of a document

pub data XmlData : Type 0 where
  -- what stands as it is
  markup : List ℕ → XmlData
  number : ℕ → XmlData
  -- so many microseconds, in seconds
  seconds : ℕ → XmlData
  -- a text, in an attribute or in an element
  text : List ℕ → XmlData

abbrev pub xml_of : Xml → XmlData
xml_of (code.Markup bytes) = markup bytes.now
xml_of (code.Number n) = number n
xml_of (code.Seconds us) = seconds us
xml_of (code.Text words) = text words.now

unfoldable pub seconds_text : ℕ → List ℕ
seconds_text us =
    decimal (us / 1000000) ++ (46 ∷ digit_at 100000 us ∷ digit_at 10000 us ∷ digit_at 1000 us ∷ digit_at 100 us ∷ digit_at 10 us
    ∷ digit_at 1 us ∷ [])

abbrev pub piece_text : XmlData → List ℕ
piece_text (markup bytes) = bytes
piece_text (number n) = decimal n
piece_text (seconds us) = seconds_text us
piece_text (text words) = escaped words

unfoldable pub xml_text : List XmlData → List ℕ
xml_text pieces = flat_map piece_text pieces
