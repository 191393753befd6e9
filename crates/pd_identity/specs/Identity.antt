-- Discover Identity, a structured Vendor_Defined message, and its answers (USB Power Delivery 3.0, sections 6.4.4.2 and
-- 6.4.4.3.1).
use Rattle.std.specs.Prelude.{◌≡◌, ◌==◌, ◌&&◌, ℕ, ◌+◌, ◌*◌, ◌^◌, nat_le, List, [], ◌∷◌, length, slice_index, if◌then◌else◌}
use Rattle.pd_symbols.specs.Words.{field}
use Rattle.pd_identity.specs.declared.Cable.{Cable}
use Rattle.pd_identity.specs.declared.CablePlug.{CablePlug}
use Rattle.pd_identity.specs.declared.CablePlug.TheVariants as plug
use Rattle.pd_identity.specs.declared.Rating.{Rating}
use Rattle.pd_identity.specs.declared.Rating.TheVariants as rating
use Rattle.pd_identity.specs.declared.identity.Reply.{Reply}
use Rattle.pd_identity.specs.declared.identity.Reply.TheVariants as reply

-- the types of a command: a request, and three answers
abbrev pub req : ℕ
req = 0

abbrev pub ack : ℕ
ack = 1

abbrev pub nak : ℕ
nak = 2

abbrev pub busy : ℕ
busy = 3

-- the header of Discover Identity with this type of command (section 6.4.4.2): of the standard itself, structured, version 2.0
pub record IsHeader (w t : ℕ) : Type 0 where
  pub vendor : field w 31 16 ≡ 0xFF00
  pub structured : field w 15 15 ≡ 1
  pub version : field w 14 13 ≡ 1
  pub reserved : field w 12 11 ≡ 0
  pub position : field w 10 8 ≡ 0
  pub command_type : field w 7 6 ≡ t
  pub reserved_too : field w 5 5 ≡ 0
  pub command : field w 4 0 ≡ 1

unfoldable pub header_of : ℕ → ℕ
header_of command_type = 0xFF00 * 2 ^ 16 + 1 * 2 ^ 15 + 1 * 2 ^ 13 + command_type * 2 ^ 6 + 1

-- the ID Header (section 6.4.4.3.1.1) of a passive cable whose vendor has no number of its own
pub record IsIdHeader (w : ℕ) : Type 0 where
  pub data_capable : field w 31 30 ≡ 0
  pub product_type : field w 29 27 ≡ 3
  pub others : field w 26 16 ≡ 0
  pub vendor : field w 15 0 ≡ 0xFFFF

unfoldable pub id_header : ℕ
id_header = 3 * 2 ^ 27 + 0xFFFF

-- the object of a passive cable (section 6.4.4.3.1): USB Type-C, of the least latency, with this number for its current
pub record IsPassiveCable (w c : ℕ) : Type 0 where
  pub versions : field w 31 20 ≡ 0
  pub plug_type : field w 19 18 ≡ 2
  pub reserved : field w 17 17 ≡ 0
  pub latency : field w 16 13 ≡ 1
  pub others : field w 12 7 ≡ 0
  pub current : field w 6 5 ≡ c
  pub speed : field w 4 0 ≡ 0

-- the number that stands for a current: 1 for 3 A, 2 for 5 A
abbrev pub current_of : Rating → ℕ
current_of rating.ThreeAmperes = 1
current_of rating.FiveAmperes = 2

unfoldable pub cable_object_of : Rating → ℕ
cable_object_of r = 2 * 2 ^ 18 + 1 * 2 ^ 13 + current_of r * 2 ^ 5

-- The objects that a cable answers: of an ACK the header, the ID Header, Cert Stat and Product, both 0, and the passive
-- cable's object; of a NAK and of BUSY the header; none where there is no plug, or a silent one.
unfoldable pub answer_of : Cable → List ℕ
answer_of cable = by_plug cable.plug where
  by_plug : CablePlug → List ℕ
  by_plug plug.Absent = []
  by_plug plug.Ack = header_of ack ∷ id_header ∷ 0 ∷ 0 ∷ cable_object_of cable.rating ∷ []
  by_plug plug.Nak = header_of nak ∷ []
  by_plug plug.Busy = header_of busy ∷ []
  by_plug plug.Silent = []

-- what an answer counts as, by the command type in its first object: what is neither ACK nor BUSY is a NAK
unfoldable pub reply_of : List ℕ → Reply
reply_of [] = reply.Nak
reply_of (header ∷ objects) =
    if field header 7 6 == ack then reply.Ack else (if field header 7 6 == busy then reply.Busy else reply.Nak)

-- The current in mA that may be offered through a cable that has answered with these objects: 5,000 where there are at
-- least five, the second says that it is a passive cable, and the fifth says that it is for 5 A; else 3,000.
unfoldable pub limit_of : List ℕ → ℕ
limit_of objects =
    if nat_le 5 (length objects) && (field (slice_index objects 1) 29 27 == 3 && field (slice_index objects 4) 6 5 == 2) then 5000 else 3000

-- The most current in mA that a cable is known to carry: 5,000 where it is rated so and its plug answers ACK, else 3,000.
abbrev pub rated : Cable → ℕ
rated cable = by_rating cable.plug cable.rating where
  by_rating : CablePlug → Rating → ℕ
  by_rating plug.Ack rating.FiveAmperes = 5000
  by_rating _ _ = 3000
