-- What is written of a telling is the object of its members.
use Rattle.std.proofs.Common.{◌≡◌, ℕ, ℤ, Bool, false, length, nat_lt, Option, None, Some, true, List, [], ◌∷◌, ◌++◌, map, filter, codes}
use Rattle.std.proofs.Common.{refl, ap, sym, ◌∙◌, append_assoc, append-nil}
use Rattle.std.specs.Prelude.{if◌then◌else◌}
use Rattle.std.specs.List.{flat_map, join_with_byte, list_all}
use Rattle.std.proofs.lemmas.Bool.{and_parts, false≢true}
use Rattle.std.proofs.lemmas.Grind.{flat_map-append}
use Rattle.std.proofs.lemmas.List.Folds.{flat_map-map}
use Rattle.pd_text.specs.declared.piece.Form.TheVariants.{Json}
use Rattle.pd_text.specs.Pieces.{PieceData, kind, number, name, flag, names, line_words, line_number, member_number, member_null}
use Rattle.pd_text.specs.Pieces.{ListNameData, file, string, whole_number, member_string}
use Rattle.pd_text.specs.Strings.{string_text}
use Rattle.pd_text.specs.Texts.{key_text, line_of, listed, member, member_of, quoted, text_member, text_of, text_of_all, whole_member}
use Rattle.pd_text.specs.Json.{MemberData, TellingsAreObjects, any_text, is_later, member_json, member_with, members_in, object_json}
use Rattle.pd_text.specs.Json.{text_members, whole_members}
use Rattle.pd_text.proofs.NameLemmas.{joined}

-- each member behind a comma
behind_commas : List MemberData → List ℕ
behind_commas members = flat_map (λ m. 44 ∷ member_json m) members

with_comma : (key value : List ℕ) → key_text key ++ value ≡ (44 ∷ (quoted key ++ (codes ":" ++ value))) ++ []
unfolding key_text quoted
with_comma key value =
    ap (λ t. 44 ∷ 34 ∷ t) (append_assoc key (34 ∷ 58 ∷ []) value ∙ sym (append_assoc key (34 ∷ []) (58 ∷ value))) ∙ sym (append-nil _)

-- the texts of the names that a list has, in quotation marks
listed_texts : (list : List ListNameData) → listed list ≡ map quoted (map (λ n. n.text) (filter (λ n. n.is_listed) list))
listed_texts list = two (filter (λ n. n.is_listed) list)
  where
    two : (rest : List ListNameData) → map (λ n. quoted n.text) rest ≡ map quoted (map (λ n. n.text) rest)
    two [] = refl
    two (n ∷ rest) = ap (λ t. quoted n.text ∷ t) (two rest)

of_text : (key t : List ℕ) → text_member key t ≡ behind_commas (text_members key t)
unfolding behind_commas
of_text key t = by (nat_lt 0 (length t))
  where
    by : (is_there : Bool) → (if is_there then member key (string_text t) else [])
        ≡ flat_map (λ m. 44 ∷ member_json m) (if is_there then member_with key (any_text t) else [])
    by true = with_comma key _
    by false = refl

of_whole : (key : List ℕ) (n : Option ℤ) → whole_member key n ≡ behind_commas (whole_members key n)
unfolding behind_commas
of_whole key None = refl
of_whole key (Some n) = with_comma key _

of_piece : (piece : PieceData) → is_later piece ≡ true → member_of piece ≡ behind_commas (members_in piece)
unfolding behind_commas
of_piece (kind t) e = absurd (false≢true e)
of_piece (number words key unit n) e = with_comma key _
of_piece (name words key t) e = with_comma key _
of_piece (flag if_so if_not key holds) e = with_comma key _
of_piece (names key list) e =
    ap (λ texts. key_text key ++ (codes "[" ++ (join_with_byte 44 texts ++ codes "]"))) (listed_texts list) ∙ with_comma key _
of_piece (file t) e = absurd (false≢true e)
of_piece (string words key t) e = of_text key t
of_piece (whole_number words key n) e = of_whole key n
of_piece (line_words words) e = refl
of_piece (line_number words unit n) e = refl
of_piece (member_number key n) e = with_comma key _
of_piece (member_string key t) e = of_text key t
of_piece (member_null key) e = with_comma key _

of_pieces : (pieces : List PieceData) → list_all is_later pieces ≡ true
    → text_of_all Json pieces ≡ behind_commas (flat_map members_in pieces)
unfolding behind_commas text_of_all
of_pieces [] e = refl
of_pieces (piece ∷ pieces) e =
    let parts = and_parts (is_later piece) (list_all is_later pieces) e in
    ap (λ t. t ++ flat_map (text_of Json) pieces) (of_piece piece parts.0)
    ∙ ap (λ t. behind_commas (members_in piece) ++ t) (of_pieces pieces parts.1)
    ∙ sym (flat_map-append (λ m. 44 ∷ member_json m) (members_in piece) (flat_map members_in pieces))

-- the first member, and then those of pieces that a telling doesn't begin with
behind : (first : List ℕ) (pieces : List PieceData) → list_all is_later pieces ≡ true
    → 123 ∷ ((first ++ text_of_all Json pieces) ++ codes "}\n")
    ≡ 123 ∷ (join_with_byte 44 (first ∷ map member_json (flat_map members_in pieces)) ++ codes "}") ++ codes "\n"
unfolding behind_commas
behind first pieces e =
    let members = flat_map members_in pieces in
    let inside : join_with_byte 44 (first ∷ map member_json members) ≡ first ++ behind_commas members =
    joined first (map member_json members) ∙ ap (λ t. first ++ t) (flat_map-map (λ (t : List ℕ). 44 ∷ t) member_json members) in
    ap (λ rest. 123 ∷ ((first ++ rest) ++ (125 ∷ 10 ∷ []))) (of_pieces pieces e)
    ∙ ap (λ all. 123 ∷ (all ++ (125 ∷ 10 ∷ []))) (sym inside)
    ∙ ap (λ all. 123 ∷ all) (sym (append_assoc (join_with_byte 44 (first ∷ map member_json members)) (125 ∷ []) (10 ∷ [])))

pub tellings_are_objects : TellingsAreObjects
unfolding line_of object_json text_of_all quoted
tellings_are_objects (kind t) pieces e = behind (codes "\"kind\":" ++ quoted t) pieces e
tellings_are_objects (file t) pieces e = behind (codes "\"file\":" ++ string_text t) pieces e
tellings_are_objects (number words key unit n) pieces e = absurd (false≢true e)
tellings_are_objects (name words key t) pieces e = absurd (false≢true e)
tellings_are_objects (flag if_so if_not key holds) pieces e = absurd (false≢true e)
tellings_are_objects (names key list) pieces e = absurd (false≢true e)
tellings_are_objects (string words key t) pieces e = absurd (false≢true e)
tellings_are_objects (whole_number words key n) pieces e = absurd (false≢true e)
tellings_are_objects (line_words words) pieces e = absurd (false≢true e)
tellings_are_objects (line_number words unit n) pieces e = absurd (false≢true e)
tellings_are_objects (member_number key n) pieces e = absurd (false≢true e)
tellings_are_objects (member_string key t) pieces e = absurd (false≢true e)
tellings_are_objects (member_null key) pieces e = absurd (false≢true e)
