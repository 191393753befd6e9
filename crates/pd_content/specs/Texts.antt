-- A packet as a line of text: this product's own form, over the standard's fields.
use Rattle.std.specs.Prelude.{ℕ, zero, suc, ◌+◌, ◌&&◌, Bool, true, false, nat_le, nat_lt, if◌then◌else◌}
use Rattle.std.specs.Prelude.{List, [], ◌∷◌, ◌++◌, length, codes, decimal, slice_index}
use Rattle.std.specs.List.{flat_map}
use Rattle.pd_symbols.specs.declared.channel.Channel.{Channel}
use Rattle.pd_symbols.specs.declared.channel.Channel.TheVariants.{Sop, SopPrime}
use Rattle.pd_symbols.specs.Hex.{hex_digits}
use Rattle.pd_symbols.specs.Words.{field}
use Rattle.pd_header.specs.Header.{extended_of, type_of}
use Rattle.pd_header.specs.Kinds as messages
use Rattle.pd_packet.specs.Contents.{Contents}
use Rattle.pd_content.specs.declared.row.Row.{Row}
use Rattle.pd_content.specs.declared.kind.ObjectKind.{ObjectKind}
use Rattle.pd_content.specs.declared.kind.ObjectKind.TheVariants as object
use Rattle.pd_content.specs.Fields.{lead_of}
use Rattle.pd_content.specs.Units.{is_told, value_text}
use Rattle.pd_content.specs.Rows.{header_rows, rows_of}
use Rattle.pd_content.specs.Kinds.{kind_at, kind_name}

-- a field is of 1 to 16 bits of a word
abbrev pub is_placed : Row → Bool
is_placed row = nat_le row.low row.high && (nat_lt row.high (row.low + 16) && nat_lt row.high 32)

-- the number in a field of a word, and 0 in a field that is none
abbrev pub value_in : Row → ℕ → ℕ
value_in row w = if is_placed row then field w row.high row.low else 0

-- a field of a word, where it is told: behind a space the word that leads its value, and the value
unfoldable pub field_text : ℕ → Row → List ℕ
field_text w row =
    if is_told row.unit (value_in row w) then 32 ∷ (lead_of row.field ++ value_text row.unit (value_in row w)) else []

abbrev pub fields_text : List Row → ℕ → List ℕ
fields_text rows w = flat_map (field_text w) rows

abbrev pub set_name : Channel → List ℕ
set_name Sop = codes "SOP"
set_name SopPrime = codes "SOP'"

-- the name of the message that a header tells; of an extended message its type
abbrev pub message_name : ℕ → List ℕ
message_name header =
    if extended_of header then codes "Extended" ++ decimal (type_of header) else messages.name_of (messages.kind_of_header header)

unfoldable pub header_text : Channel → ℕ → List ℕ
header_text channel header =
    set_name channel ++ 32 ∷ (message_name header ++ fields_text (header_rows channel) header)

-- all bits of an object are told where its fields don't tell them
abbrev pub is_whole : ObjectKind → Bool
is_whole object.VendorHeader = true
is_whole object.Other = true
is_whole _ = false

-- an object behind a bar: its place, from 1, what it is, and its fields
unfoldable pub object_text : Contents → ℕ → List ℕ
object_text p index =
    codes " | " ++ (decimal (index + 1) ++ 32 ∷ (kind_name (kind_at p index) ++ (whole ++ fields_text (rows_of (kind_at p index)) word)))
  where
    word : ℕ
    word = slice_index p.objects index

    whole : List ℕ
    whole = if is_whole (kind_at p index) then 32 ∷ hex_digits 8 word else []

-- the first n objects
unfoldable pub objects_text : Contents → ℕ → List ℕ
objects_text p zero = []
objects_text p (suc n) = objects_text p n ++ object_text p n

unfoldable pub packet_text : Contents → List ℕ
packet_text p = header_text p.channel p.header ++ objects_text p (length p.objects)
