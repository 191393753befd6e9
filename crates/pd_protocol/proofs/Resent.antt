-- What holds of the packet that a layer has outstanding, and so of each packet that it hands out.
use Rattle.std.proofs.Common.{◌==◌, ℕ, ◌+◌, ◌%◌, ◌^◌, ◌≡◌, nat_lt, length, Bool, true, false, if◌then◌else◌, Option, Some, None}
use Rattle.std.proofs.Common.{Result, Ok, Err, refl}
use Rattle.pd_symbols.specs.declared.channel.Channel.{Channel}
use Rattle.pd_packet.specs.Contents.{Contents}
use Rattle.pd_header.specs.declared.side.Side.{Side}
use Rattle.pd_header.specs.Header.{id_of, type_of}
use Rattle.pd_header.specs.Kinds.{kind_of_header, is_soft_reset}
use Rattle.pd_header.proofs.Numbers.{type_packed}
use Rattle.pd_protocol.specs.declared.layer.LayerAct.{LayerAct}
use Rattle.pd_protocol.specs.declared.layer.LayerAct.TheVariants.{Sent, Retry, Failed, Idle, Up}
use Rattle.pd_protocol.specs.Messages.{MessageData, header_data, header_of, packet_of}
use Rattle.pd_protocol.specs.LayerRecord.{LayerRecord, OutstandingData}
use Rattle.pd_protocol.specs.Layer.{fresh, reset, tries_of, closed, submitted, submit, acknowledged, good_crc, tried_again}
use Rattle.pd_protocol.specs.Layer.{timed_out, received}

-- T holds of the outstanding packet, where there is one
abbrev pub IsOfSent : (Contents → Type 0) → Option OutstandingData → Type 0
IsOfSent T None = Unit {0}
IsOfSent T (Some o) = T o.packet

-- T holds of the packet that goes out again, where one does
abbrev pub IsOfRetry : (Contents → Type 0) → LayerAct → Type 0
IsOfRetry T (Retry p) = T p
IsOfRetry T act = Unit {0}

-- T holds of the packet that a message became, or else the message came back
abbrev pub IsOfPacket : (Contents → Type 0) → MessageData → Result Contents MessageData → Type 0
IsOfPacket T m (Ok p) = T p
IsOfPacket T m (Err n) = n ≡ m

module _ (T : Contents → Type 0) where
  pub reset_sent : (l : LayerRecord) → IsOfSent T (reset l).outstanding
  unfolding reset fresh
  reset_sent l = tt

  received_by : (b : Bool) (l : LayerRecord) (a : LayerAct) (side : Side) (channel : Channel) (id : ℕ) → IsOfSent T l.outstanding →
      let r : LayerRecord × LayerAct = if b then (
        record (fresh side channel) { stored_id = Some id },
        Up,
      ) else (record l { stored_id = Some id }, a) in
      IsOfSent T r.0.outstanding
  unfolding fresh
  received_by true l a side channel id h = tt
  received_by false l a side channel id h = h

  pub received_sent : (l : LayerRecord) (header : ℕ) → IsOfSent T l.outstanding → IsOfSent T (received l header).0.outstanding
  unfolding received
  received_sent l header h = received_by (is_soft_reset (kind_of_header header)) l _ l.side l.channel (id_of header) h

  closed_by : (b : Bool) (l : LayerRecord) → IsOfSent T l.outstanding →
      let r : LayerRecord × LayerAct = if b then (closed l, Sent) else (l, Idle) in IsOfSent T r.0.outstanding
  closed_by true l h = tt
  closed_by false l h = h

  acknowledged_sent : (o : Option OutstandingData) (l : LayerRecord) (id : ℕ) → IsOfSent T l.outstanding
      → IsOfSent T (acknowledged o l id).0.outstanding
  acknowledged_sent None l id h = h
  acknowledged_sent (Some o) l id h = closed_by (id_of o.packet.header == id) l h

  pub good_crc_sent : (l : LayerRecord) (id : ℕ) → IsOfSent T l.outstanding → IsOfSent T (good_crc l id).0.outstanding
  unfolding good_crc
  good_crc_sent l id h = acknowledged_sent l.outstanding l id h

  tried_by : (b : Bool) (o : OutstandingData) (l : LayerRecord) → T o.packet →
      let r : LayerRecord × LayerAct = if b then (
        record l { outstanding = Some (record o { tries = o.tries + 1 }) },
        Retry o.packet,
      ) else (closed l, Failed) in
      IsOfSent T r.0.outstanding × IsOfRetry T r.1
  tried_by true o l h = (h, h)
  tried_by false o l h = (tt, tt)

  tried_again_sent : (o : Option OutstandingData) (l : LayerRecord) → IsOfSent T l.outstanding → IsOfSent T o
      → IsOfSent T (tried_again o l).0.outstanding × IsOfRetry T (tried_again o l).1
  tried_again_sent None l h k = (h, tt)
  tried_again_sent (Some o) l h k = tried_by (nat_lt o.tries (tries_of o.packet.header)) o l k

  pub timed_out_sent : (l : LayerRecord) → IsOfSent T l.outstanding → IsOfSent T (timed_out l).0.outstanding × IsOfRetry T (timed_out l).1
  unfolding timed_out
  timed_out_sent l h = tried_again_sent l.outstanding l h h

  submitted_sent : (o : Option OutstandingData) (l : LayerRecord) (revision : ℕ) (m : MessageData) → IsOfSent T l.outstanding
      → T (packet_of l.side l.channel revision l.next_id m) →
      IsOfSent T (submitted o l revision m).0.outstanding × IsOfPacket T m (submitted o l revision m).1
  submitted_sent None l revision m h k = (k, k)
  submitted_sent (Some o) l revision m h k = (h, refl)

  pub submit_sent : (l : LayerRecord) (revision : ℕ) (m : MessageData) → IsOfSent T l.outstanding
      → T (packet_of l.side l.channel revision l.next_id m) →
      IsOfSent T (submit l revision m).0.outstanding × IsOfPacket T m (submit l revision m).1
  unfolding submit
  submit_sent l revision m h k = submitted_sent l.outstanding l revision m h k

-- a message's packet has its type and its objects
pub packet_type : (side : Side) (channel : Channel) (revision id : ℕ) (m : MessageData)
    → type_of (packet_of side channel revision id m).header ≡ m.kind % 2 ^ 5
unfolding packet_of header_of
packet_type side channel revision id m = type_packed (header_data side channel revision id m.kind (length m.objects))

pub packet_objects : (side : Side) (channel : Channel) (revision id : ℕ) (m : MessageData)
    → (packet_of side channel revision id m).objects ≡ m.objects
unfolding packet_of
packet_objects side channel revision id m = refl
