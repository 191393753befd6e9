-- The rules of the protocol layer (USB Power Delivery 3.0, sections 6.6.1, 6.7 and 6.8.1). Each gives what the layer
-- keeps afterwards, and its answer.
use Rattle.std.specs.Prelude.{ℕ, Bool, false, ◌+◌, ◌%◌, ◌==◌, nat_lt, if◌then◌else◌, Option, Some, None, Result, Ok, Err}
use Rattle.pd_symbols.specs.declared.channel.Channel.{Channel}
use Rattle.pd_packet.specs.Contents.{Contents}
use Rattle.pd_header.specs.declared.side.Side.{Side}
use Rattle.pd_header.specs.Header.{id_of, revision_of}
use Rattle.pd_header.specs.Kinds.{kind_of_header, is_soft_reset}
use Rattle.pd_protocol.specs.Messages.{MessageData, packet_of}
use Rattle.pd_protocol.specs.LayerRecord.{LayerRecord, OutstandingData}
use Rattle.pd_protocol.specs.declared.layer.LayerAct.{LayerAct}
use Rattle.pd_protocol.specs.declared.layer.LayerAct.TheVariants.{Sent, Retry, Failed, Idle, Up, Repeat}

-- nothing sent and nothing received
unfoldable pub fresh : Side → Channel → LayerRecord
fresh side channel = record { side = side; channel = channel; next_id = 0; stored_id = None; outstanding = None }

unfoldable pub reset : LayerRecord → LayerRecord
reset l = fresh l.side l.channel

-- how often a packet is sent at most: once and nRetryCount times again, which is 3 in revision 2.0 and 2 in revision 3.0
unfoldable pub tries_of : ℕ → ℕ
tries_of header = if revision_of header == 1 then 4 else 3

-- the outstanding message is done with, and the next ID (MessageIDCounter) rises, 7 (nMessageIDCount) being followed by 0
abbrev pub closed : LayerRecord → LayerRecord
closed l = record l { next_id = (l.next_id + 1) % 8; outstanding = None }

abbrev pub submitted : Option OutstandingData → LayerRecord → ℕ → MessageData → LayerRecord × Result Contents MessageData
submitted None l revision m =
    let packet = packet_of l.side l.channel revision l.next_id m in
    (record l { outstanding = Some (record { packet = packet; tries = 1 }) }, Ok packet)
submitted (Some o) l revision m = (l, Err m)

-- where none is outstanding, a message becomes a packet with the next ID, and is outstanding with its first try
unfoldable pub submit : LayerRecord → ℕ → MessageData → LayerRecord × Result Contents MessageData
submit l revision m = submitted l.outstanding l revision m

abbrev pub acknowledged : Option OutstandingData → LayerRecord → ℕ → LayerRecord × LayerAct
acknowledged None l id = (l, Idle)
acknowledged (Some o) l id = if id_of o.packet.header == id then (closed l, Sent) else (l, Idle)

-- a GoodCRC with the ID of the outstanding message ends it
unfoldable pub good_crc : LayerRecord → ℕ → LayerRecord × LayerAct
good_crc l id = acknowledged l.outstanding l id

abbrev pub tried_again : Option OutstandingData → LayerRecord → LayerRecord × LayerAct
tried_again None l = (l, Idle)
tried_again (Some o) l =
    if nat_lt o.tries (tries_of o.packet.header)
    then (record l { outstanding = Some (record o { tries = o.tries + 1 }) }, Retry o.packet)
    else (closed l, Failed)

-- after a time-out (of the CRCReceiveTimer, tReceive) the same packet goes out again, and after the last of its tries it has
-- failed
unfoldable pub timed_out : LayerRecord → LayerRecord × LayerAct
timed_out l = tried_again l.outstanding l

abbrev pub is_stored : Option ℕ → ℕ → Bool
is_stored None id = false
is_stored (Some stored) id = stored == id

-- A Soft_Reset resets the layer and goes up; of the others one with the stored ID is a repeat. The ID that came is
-- stored.
unfoldable pub received : LayerRecord → ℕ → LayerRecord × LayerAct
received l header =
    if is_soft_reset (kind_of_header header)
    then (record (fresh l.side l.channel) { stored_id = Some (id_of header) }, Up)
    else (record l { stored_id = Some (id_of header) }, if is_stored l.stored_id (id_of header) then Repeat else Up)
