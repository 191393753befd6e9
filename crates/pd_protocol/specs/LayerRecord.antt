-- What the protocol layer of one side on one channel keeps (USB Power Delivery 3.0, sections 6.7 and 6.8.1).
use Rattle.std.specs.Prelude.{◌≡◌, ℕ, zero, suc, Option, Some, None, []}
use Rattle.std.proofs.Common.{refl, sym}
use Rattle.pd_symbols.specs.declared.channel.Channel.{Channel}
use Rattle.pd_symbols.specs.declared.channel.Channel.TheVariants.{Sop}
use Rattle.pd_packet.specs.Contents.{Contents}
use Rattle.pd_header.specs.declared.side.Side.{Side}

-- a packet that waits for its GoodCRC, and how often it was sent
pub record OutstandingData : Type 0 where
  pub packet : Contents
  pub tries : ℕ

-- the next ID (the standard's MessageIDCounter), the ID that came last, and the message that waits for its GoodCRC, with its
-- tries (one more than the standard's RetryCounter)
pub record LayerRecord : Type 0 where
  pub side : Side
  pub channel : Channel
  pub next_id : ℕ
  pub stored_id : Option ℕ
  pub outstanding : Option OutstandingData

-- what is outstanding, by how often a packet was sent: nothing where it wasn't
abbrev pub outstanding_of : ℕ → Contents → Option OutstandingData
outstanding_of zero packet = None
outstanding_of (suc n) packet = Some (record { packet = packet; tries = suc n })

-- what stands in the packet's place where nothing is outstanding
abbrev pub blank : Contents
blank = record { channel = Sop; header = 0; objects = [] }

-- how often what is outstanding was sent, and its packet
abbrev pub tries_in : Option OutstandingData → ℕ
tries_in None = 0
tries_in (Some o) = o.tries

abbrev pub packet_in : Option OutstandingData → Contents
packet_in None = blank
packet_in (Some o) = o.packet

-- Both are kept, where the packet that wasn't sent is the blank one.
pub tries_are_kept : (tries : ℕ) (packet : Contents) → tries_in (outstanding_of tries packet) ≡ tries
tries_are_kept zero packet = refl
tries_are_kept (suc n) packet = refl

pub packet_is_kept : (tries : ℕ) (packet : Contents) → (tries ≡ 0 → packet ≡ blank) → packet_in (outstanding_of tries packet) ≡ packet
packet_is_kept zero packet is_blank = sym (is_blank refl)
packet_is_kept (suc n) packet is_blank = refl
