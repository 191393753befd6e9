-- What pieces say, in two forms: a line of words, and a JSON object on a line of its own.
use Rattle.std.specs.Prelude.{ℕ, Bool, true, false, if◌then◌else◌, List, [], ◌++◌, map, filter, codes, decimal}
use Rattle.std.specs.Prelude.{ℤ, length, nat_lt, Option, None, Some}
use Rattle.std.specs.Fmt.{signed_decimal}
use Rattle.std.specs.List.{flat_map, join_with_byte}
use Rattle.pd_text.specs.declared.piece.Form.{Form}
use Rattle.pd_text.specs.declared.piece.Form.TheVariants.{Words, Json}
use Rattle.pd_text.specs.Amounts.{amount}
use Rattle.pd_text.specs.Pieces.{PieceData, kind, number, name, flag, names, line_words, line_number, member_number, member_null}
use Rattle.pd_text.specs.Pieces.{ListNameData, file, string, whole_number, member_string}
use Rattle.pd_text.specs.Strings.{string_text}

-- ---- in a line of words

abbrev pub list_words : ListNameData → List ℕ
list_words n = if n.is_listed then n.words else []

-- a text that is empty is left out
abbrev pub text_words : List ℕ → List ℕ → List ℕ
text_words words text = if nat_lt 0 (length text) then words ++ text else []

abbrev pub whole_words : List ℕ → Option ℤ → List ℕ
whole_words words None = []
whole_words words (Some n) = words ++ signed_decimal n

abbrev pub words_of : PieceData → List ℕ
words_of (kind text) = []
words_of (number words key unit n) = words ++ amount unit n
words_of (name words key text) = words
words_of (flag if_so if_not key holds) = if holds then if_so else if_not
words_of (names key list) = flat_map list_words list
words_of (file text) = text
words_of (string words key text) = text_words words text
words_of (whole_number words key n) = whole_words words n
words_of (line_words words) = words
words_of (line_number words unit n) = words ++ amount unit n
words_of (member_number key n) = []
words_of (member_string key text) = []
words_of (member_null key) = []

-- ---- in a JSON object

unfoldable pub quoted : List ℕ → List ℕ
quoted text = codes "\"" ++ (text ++ codes "\"")

-- the key of a member that isn't the first
unfoldable pub key_text : List ℕ → List ℕ
key_text key = codes ",\"" ++ (key ++ codes "\":")

abbrev pub member : List ℕ → List ℕ → List ℕ
member key value = key_text key ++ value

abbrev pub truth : Bool → List ℕ
truth true = codes "true"
truth false = codes "false"

-- the names that a list has
abbrev pub listed : List ListNameData → List (List ℕ)
listed list = map (λ n. quoted n.text) (filter (λ n. n.is_listed) list)

-- the same, with commas between them, and as a list
abbrev pub names_joined : List ListNameData → List ℕ
names_joined list = join_with_byte 44 (listed list)

abbrev pub names_json : List ListNameData → List ℕ
names_json list = codes "[" ++ (names_joined list ++ codes "]")

abbrev pub text_member : List ℕ → List ℕ → List ℕ
text_member key text = if nat_lt 0 (length text) then member key (string_text text) else []

abbrev pub whole_member : List ℕ → Option ℤ → List ℕ
whole_member key None = []
whole_member key (Some n) = member key (signed_decimal n)

abbrev pub member_of : PieceData → List ℕ
member_of (kind text) = codes "\"kind\":" ++ quoted text
member_of (number words key unit n) = member key (decimal n)
member_of (name words key text) = member key (quoted text)
member_of (flag if_so if_not key holds) = member key (truth holds)
member_of (names key list) = member key (names_json list)
member_of (file text) = codes "\"file\":" ++ string_text text
member_of (string words key text) = text_member key text
member_of (whole_number words key n) = whole_member key n
member_of (line_words words) = []
member_of (line_number words unit n) = []
member_of (member_number key n) = member key (decimal n)
member_of (member_string key text) = text_member key text
member_of (member_null key) = member key (codes "null")

-- ---- in either form

abbrev pub text_of : Form → PieceData → List ℕ
text_of Words piece = words_of piece
text_of Json piece = member_of piece

unfoldable pub text_of_all : Form → List PieceData → List ℕ
text_of_all form pieces = flat_map (text_of form) pieces

-- what stands before and behind a telling on its line
abbrev pub line_begin : Form → List ℕ
line_begin Words = []
line_begin Json = codes "{"

abbrev pub line_end : Form → List ℕ
line_end Words = codes "\n"
line_end Json = codes "}\n"

-- the line of a telling
unfoldable pub line_of : Form → List PieceData → List ℕ
line_of form pieces = line_begin form ++ (text_of_all form pieces ++ line_end form)
