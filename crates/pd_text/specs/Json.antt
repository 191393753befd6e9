-- JSON objects (RFC 8259), as far as tellings have them: their values are names, which have nothing that JSON escapes, texts, numbers,
-- true, false, null, and lists of names.
use Rattle.std.specs.Prelude.{◌≡◌, ℕ, Bool, true, false, List, [], ◌∷◌, ◌++◌, map, filter, codes, decimal}
use Rattle.std.specs.Prelude.{ℤ, ◌&&◌, not, length, nat_lt, Option, None, Some, if◌then◌else◌}
use Rattle.std.specs.Fmt.{signed_decimal}
use Rattle.std.specs.List.{flat_map, join_with_byte, list_all}
use Rattle.pd_text.specs.declared.piece.Form.TheVariants.{Json}
use Rattle.pd_text.specs.Pieces.{PieceData, kind, number, name, flag, names, line_words, line_number, member_number, member_null}
use Rattle.pd_text.specs.Pieces.{file, string, whole_number, member_string}
use Rattle.pd_text.specs.Strings.{string_text}
use Rattle.pd_text.specs.Texts.{line_of, quoted, truth}

pub data ValueData : Type 0 where
  text : List ℕ → ValueData
  any_text : List ℕ → ValueData
  whole : ℕ → ValueData
  signed : ℤ → ValueData
  boolean : Bool → ValueData
  null : ValueData
  texts : List (List ℕ) → ValueData

pub record MemberData : Type 0 where
  pub key : List ℕ
  pub value : ValueData

abbrev pub value_json : ValueData → List ℕ
value_json (text t) = quoted t
value_json (any_text t) = string_text t
value_json (whole n) = decimal n
value_json (signed n) = signed_decimal n
value_json (boolean b) = truth b
value_json null = codes "null"
value_json (texts ts) = codes "[" ++ (join_with_byte 44 (map quoted ts) ++ codes "]")

abbrev pub member_json : MemberData → List ℕ
member_json m = quoted m.key ++ (codes ":" ++ value_json m.value)

unfoldable pub object_json : List MemberData → List ℕ
object_json members = codes "{" ++ (join_with_byte 44 (map member_json members) ++ codes "}")

-- ---- the members of a telling

abbrev pub member_with : List ℕ → ValueData → List MemberData
member_with key value = record { key = key; value = value } ∷ []

abbrev pub text_members : List ℕ → List ℕ → List MemberData
text_members key t = if nat_lt 0 (length t) then member_with key (any_text t) else []

abbrev pub whole_members : List ℕ → Option ℤ → List MemberData
whole_members key None = []
whole_members key (Some n) = member_with key (signed n)

abbrev pub members_in : PieceData → List MemberData
members_in (kind t) = member_with (codes "kind") (text t)
members_in (number words key unit n) = member_with key (whole n)
members_in (name words key t) = member_with key (text t)
members_in (flag if_so if_not key holds) = member_with key (boolean holds)
members_in (names key list) = member_with key (texts (map (λ n. n.text) (filter (λ n. n.is_listed) list)))
members_in (file t) = member_with (codes "file") (any_text t)
members_in (string words key t) = text_members key t
members_in (whole_number words key n) = whole_members key n
members_in (line_words words) = []
members_in (line_number words unit n) = []
members_in (member_number key n) = member_with key (whole n)
members_in (member_string key t) = text_members key t
members_in (member_null key) = member_with key null

-- a piece that a telling begins with: its kind, or a file
abbrev pub is_first : PieceData → Bool
is_first (kind t) = true
is_first (file t) = true
is_first piece = false

-- one that doesn't
abbrev pub is_later : PieceData → Bool
is_later piece = not (is_first piece)

-- What is written of a telling is the object of its members, on a line of its own.
abbrev pub TellingsAreObjects : Type 0
TellingsAreObjects =
    (first : PieceData) (pieces : List PieceData) → (is_first first && list_all is_later pieces) ≡ true
    → line_of Json (first ∷ pieces) ≡ object_json (flat_map members_in (first ∷ pieces)) ++ codes "\n"
