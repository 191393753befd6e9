-- What the layer's rules come to.
use Rattle.std.specs.Prelude.{◌≡◌, ℕ, zero, suc, ◌+◌, ◌%◌, ◌^◌, ◌<◌, false, None}
use Rattle.pd_packet.specs.Contents.{Contents}
use Rattle.pd_header.specs.declared.side.Side.{Side}
use Rattle.pd_header.specs.Header.{id_of}
use Rattle.pd_header.specs.Kinds.{kind_of_header, is_soft_reset}
use Rattle.pd_protocol.specs.declared.layer.LayerAct.TheVariants.{Sent, Retry, Failed, Repeat}
use Rattle.pd_protocol.specs.Messages.{MessageData, packet_of, acknowledges}
use Rattle.pd_protocol.specs.LayerRecord.{LayerRecord}
use Rattle.pd_protocol.specs.Layer.{submit, good_crc, timed_out, received, tries_of}

-- a layer that is free to send
abbrev pub IsFree : LayerRecord → Type 0
IsFree l = l.outstanding ≡ None

-- the packet that a free layer makes of a message
abbrev pub first_packet : LayerRecord → ℕ → MessageData → Contents
first_packet l revision m = packet_of l.side l.channel revision l.next_id m

-- the GoodCRC with which a side acknowledges the packet of a free layer's message
abbrev pub answer_to : Side → ℕ → LayerRecord → ℕ → MessageData → Contents
answer_to hearer answering l revision m = acknowledges hearer answering (first_packet l revision m)

-- The GoodCRC that acknowledges a message's packet ends it, and the next message has the next ID.
abbrev pub AnsweredIsSent : Type 0
AnsweredIsSent = (l : LayerRecord) (revision answering : ℕ) (m : MessageData) (hearer : Side) → IsFree l → answering < 2 ^ 2
    → good_crc (submit l revision m).0 (id_of (answer_to hearer answering l revision m).header)
    ≡ (record l { next_id = (l.next_id + 1) % 8 }, Sent)

-- after so many time-outs
abbrev pub after_timeouts : ℕ → LayerRecord → LayerRecord
after_timeouts zero l = l
after_timeouts (suc n) l = (timed_out (after_timeouts n l)).0

-- Where no GoodCRC comes, the same packet goes out again until it went out as often as it may, and then it has failed.
pub record TriesOut (l : LayerRecord) (revision : ℕ) (m : MessageData) : Type 0 where
  pub again : (n : ℕ) → n + 1 < tries_of (first_packet l revision m).header
      → (timed_out (after_timeouts n (submit l revision m).0)).1 ≡ Retry (first_packet l revision m)
  pub last : (n : ℕ) → n + 1 ≡ tries_of (first_packet l revision m).header
      → timed_out (after_timeouts n (submit l revision m).0) ≡ (record l { next_id = (l.next_id + 1) % 8 }, Failed)

abbrev pub UnansweredFails : Type 0
UnansweredFails = (l : LayerRecord) (revision : ℕ) (m : MessageData) → IsFree l → TriesOut l revision m

-- A message that comes twice in a row goes up once, but for a Soft_Reset.
abbrev pub TwiceIsRepeat : Type 0
TwiceIsRepeat = (l : LayerRecord) (header : ℕ) → is_soft_reset (kind_of_header header) ≡ false
    → (received (received l header).0 header).1 ≡ Repeat
