-- The header of a message (USB Power Delivery 3.0, section 6.2.1.1).
use Rattle.std.specs.Prelude.{ℕ, ◌+◌, ◌*◌, ◌^◌, ◌<◌, ◌==◌, Bool, true, false}
use Rattle.pd_symbols.specs.Words.{field}

pub record HeaderData : Type 0 where
  pub extended : Bool
  pub count : ℕ
  pub id : ℕ
  pub role : Bool
  pub revision : ℕ
  pub data_role : Bool
  pub kind : ℕ

-- a field is within its bits
pub record IsHeader (h : HeaderData) : Type 0 where
  pub count_fits : h.count < 2 ^ 3
  pub id_fits : h.id < 2 ^ 3
  pub revision_fits : h.revision < 2 ^ 2
  pub kind_fits : h.kind < 2 ^ 5

-- the fields of 16 bits
abbrev pub extended_of : ℕ → Bool
extended_of w = field w 15 15 == 1

abbrev pub count_of : ℕ → ℕ
count_of w = field w 14 12

unfoldable pub id_of : ℕ → ℕ
id_of w = field w 11 9

abbrev pub role_of : ℕ → Bool
role_of w = field w 8 8 == 1

unfoldable pub revision_of : ℕ → ℕ
revision_of w = field w 7 6

abbrev pub data_role_of : ℕ → Bool
data_role_of w = field w 5 5 == 1

abbrev pub type_of : ℕ → ℕ
type_of w = field w 4 0

unfoldable pub unpacked : ℕ → HeaderData
unpacked w =
    record {
      extended = extended_of w;
      count = count_of w;
      id = id_of w;
      role = role_of w;
      revision = revision_of w;
      data_role = data_role_of w;
      kind = type_of w;
    }

abbrev pub bit : Bool → ℕ
bit true = 1
bit false = 0

-- the 16 bits with these fields
unfoldable pub packed : HeaderData → ℕ
packed h =
    bit h.extended * 2 ^ 15 + h.count * 2 ^ 12 + h.id * 2 ^ 9 + bit h.role * 2 ^ 8 + h.revision * 2 ^ 6
    + bit h.data_role * 2 ^ 5 + h.kind

-- a header of revision 3.0 whose other bits are 0
abbrev pub plain : ℕ → ℕ → ℕ → HeaderData
plain kind count id =
    record { extended = false; count = count; id = id; role = false; revision = 2; data_role = false; kind = kind }
