-- A packet as members of a JSON object: this product's own keys, over the standard's fields.
use Rattle.std.specs.Prelude.{ℕ, zero, suc, ◌==◌, List, [], ◌∷◌, ◌++◌, length, codes, slice_index, if◌then◌else◌}
use Rattle.std.specs.List.{flat_map}
use Rattle.pd_symbols.specs.declared.channel.Channel.{Channel}
use Rattle.pd_symbols.specs.Hex.{hex_digits}
use Rattle.pd_packet.specs.Contents.{Contents}
use Rattle.pd_content.specs.declared.row.Row.{Row}
use Rattle.pd_content.specs.Fields.{name_of}
use Rattle.pd_content.specs.Units.{quoted, suffix_of, value_json}
use Rattle.pd_content.specs.Rows.{header_rows, rows_of}
use Rattle.pd_content.specs.Kinds.{kind_at, kind_name}
use Rattle.pd_content.specs.Texts.{message_name, set_name, value_in}

-- a field of a word, behind a comma
unfoldable pub member : ℕ → Row → List ℕ
member w row =
    codes ",\"" ++ (name_of row.field ++ (suffix_of row.unit ++ (codes "\":" ++ value_json row.unit (value_in row w))))

abbrev pub members : List Row → ℕ → List ℕ
members rows w = flat_map (member w) rows

unfoldable pub header_members : Channel → ℕ → List ℕ
header_members channel header =
    codes "\"set\":\"" ++ (set_name channel ++ (codes "\",\"message\":\"" ++ (message_name header ++ (codes "\",\"header\":"
    ++ (quoted (hex_digits 4 header) ++ members (header_rows channel) header)))))

-- an object of the list, behind a comma where another stands before it
unfoldable pub object_json : Contents → ℕ → List ℕ
object_json p index =
    (if index == 0 then [] else 44 ∷ []) ++ (codes "{\"object\":" ++ (quoted (hex_digits 8 word) ++ (codes ",\"kind\":"
    ++ (quoted (kind_name (kind_at p index)) ++ (members (rows_of (kind_at p index)) word ++ 125 ∷ [])))))
  where
    word : ℕ
    word = slice_index p.objects index

-- the first n objects
unfoldable pub objects_json : Contents → ℕ → List ℕ
objects_json p zero = []
objects_json p (suc n) = objects_json p n ++ object_json p n

unfoldable pub packet_members : Contents → List ℕ
packet_members p =
    header_members p.channel p.header ++ (codes ",\"objects\":[" ++ (objects_json p (length p.objects) ++ 93 ∷ []))
