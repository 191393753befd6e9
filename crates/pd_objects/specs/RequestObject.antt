-- The object of a Request message for a fixed supply (USB Power Delivery 3.0, section 6.4.2).
use Rattle.std.specs.Prelude.{◌≡◌, ℕ, ◌+◌, ◌*◌, ◌^◌, ◌<◌, ◌≤◌}
use Rattle.pd_symbols.specs.Words.{field}

-- the position of the supply in the offer, from 1, the flags (bits 27 to 23 of the object), and the operating and the
-- maximum operating current in 10 mA
pub record RequestData : Type 0 where
  pub position : ℕ
  pub flags : ℕ
  pub operating_current : ℕ
  pub maximum_current : ℕ

-- the flag of a capability mismatch, bit 26 of the object
abbrev pub capability_mismatch : ℕ
capability_mismatch = 8

-- each field is within its bits, and the position isn't 0
pub record IsRequest (v : RequestData) : Type 0 where
  pub position_from_one : 1 ≤ v.position
  pub position_fits : v.position < 8
  pub flags_fit : v.flags < 32
  pub operating_current_fits : v.operating_current < 1024
  pub maximum_current_fits : v.maximum_current < 1024

-- the fields of an object
abbrev pub request_of : ℕ → RequestData
request_of w =
    record { position = field w 30 28; flags = field w 27 23; operating_current = field w 19 10; maximum_current = field w 9 0 }

-- the object of these fields: the reserved bit 31 and bits 22 to 20 are 0
pub record HasRequestFields (w : ℕ) (v : RequestData) : Type 0 where
  pub high : field w 31 31 ≡ 0
  pub position : field w 30 28 ≡ v.position
  pub flags : field w 27 23 ≡ v.flags
  pub reserved : field w 22 20 ≡ 0
  pub operating_current : field w 19 10 ≡ v.operating_current
  pub maximum_current : field w 9 0 ≡ v.maximum_current

-- the number that an object is, from its fields at their places
unfoldable pub request_word_of : RequestData → ℕ
request_word_of v = v.position * 2 ^ 28 + v.flags * 2 ^ 23 + v.operating_current * 2 ^ 10 + v.maximum_current
