-- The rules of the line, N1 to N6 of docs/TABLES.md, which has each in a sentence; its words stand over the definition here.
-- N6 is an act of the source, in PortStep.antt. A rule leads from a step under way to the step after it; `w` is the step
-- under way, `t` its time in microseconds.
use Rattle.std.specs.Prelude.{ℕ, ◌+◌, ◌-◌, ◌==◌, Bool, true, false, if◌then◌else◌, List, [], ◌∷◌, Option, Some, None, Result, Ok, Err}
use Rattle.pd_symbols.specs.declared.channel.Channel.{Channel}
use Rattle.pd_symbols.specs.declared.channel.Channel.TheVariants.{Sop, SopPrime}
use Rattle.pd_header.specs.declared.side.Side.{Side}
use Rattle.pd_header.specs.declared.side.Side.TheVariants.{Source, Sink, Plug}
use Rattle.pd_header.specs.declared.kind.Kind.TheVariants.{VendorDefined}
use Rattle.pd_header.specs.Kinds.{kind_of_header, number_of}
use Rattle.pd_header.specs.Header.{id_of}
use Rattle.pd_packet.specs.Contents.{Contents}
use Rattle.pd_packet.specs.Timing.{duration_of, symbols_of, hard_reset_duration}
use Rattle.pd_packet.specs.Hearing.{heard}
use Rattle.pd_packet.specs.declared.fate.Fate.{Fate}
use Rattle.pd_packet.specs.declared.fate.Fate.TheVariants.{Undisturbed, Lost as LostOnTheWay, Damaged as DamagedOnTheWay}
use Rattle.pd_protocol.specs.Messages.{MessageData}
use Rattle.pd_protocol.specs.Messages.{acknowledges}
use Rattle.pd_protocol.specs.declared.layer.LayerAct.{LayerAct}
use Rattle.pd_protocol.specs.declared.layer.LayerAct.TheVariants as answer
use Rattle.pd_source.specs.Step as source
use Rattle.pd_source.specs.declared.kinds.Sent.TheVariants as sent
use Rattle.pd_sink.specs.Step as sink
use Rattle.pd_plug.specs.Step as plug
use Rattle.pd_line.specs.declared.notes.Fault.TheVariants.{NoGoodCrc}
use Rattle.pd_line.specs.declared.notes.Start.{Start}
use Rattle.pd_line.specs.declared.notes.Start.TheVariants as start
use Rattle.pd_line.specs.declared.disturbances.Disturbance.{Disturbance}
use Rattle.pd_line.specs.declared.disturbances.Disturbance.TheVariants as disturbance
use Rattle.pd_line.specs.declared.port_parts.Line.{Line}
use Rattle.pd_line.specs.declared.port_parts.Line.TheVariants.{Idle, Message, Pause, GoodCrc, NoAnswer, HardReset}
use Rattle.pd_line.specs.declared.port_parts.Waiting.{Waiting}
use Rattle.pd_line.specs.declared.port_parts.Waiting.TheVariants as waits
use Rattle.pd_line.specs.declared.port_step.PortStep.{PortStep}
use Rattle.pd_line.specs.Told.{sent_as}
use Rattle.pd_line.specs.PortStep.{with_port, wait, noted, submit_on, good_crc_on, timed_out_on, received_on, reset_on}
use Rattle.pd_line.specs.PortStep.{tells_sent, tells_failed, tells_message, tells_reset}

-- ## Times

-- how long, in microseconds, the receiver waits after a message before its GoodCRC. The standard gives it tTransmit at most.
abbrev pub pause : ℕ
pause = 100

-- how long after a message's end the sender waits for its GoodCRC: the CRCReceiveTimer, tReceive
abbrev pub time_out : ℕ
time_out = 1000

-- how long a packet lasts, in microseconds
abbrev pub lasts : Contents → ℕ
lasts p = duration_of (symbols_of p)

-- how many symbols a GoodCRC has, which has no objects
abbrev pub good_crc_symbols : ℕ
good_crc_symbols = 17

-- what is left of the time-out where a GoodCRC has ended
abbrev pub rest_of_time_out : ℕ
rest_of_time_out = time_out - (pause + duration_of good_crc_symbols)

-- ## Who speaks, who hears, and on which channel

-- who is spoken to: on SOP source and sink speak to each other, on SOP' source and plug
abbrev pub receiver : Side → Channel → Side
receiver Source Sop = Sink
receiver Source SopPrime = Plug
receiver Sink channel = Source
receiver Plug channel = Source

-- which channel a side speaks on, in messages of a type. The source speaks to the plug in Vendor_Defined messages alone, and
-- to the sink in all others.
abbrev pub channel_for : Side → ℕ → Channel
channel_for Source number = if number == number_of VendorDefined then SopPrime else Sop
channel_for Sink number = Sop
channel_for Plug number = SopPrime

-- whether a side hears: its engine is neither off nor disabled
unfoldable pub hears : Side → PortStep → Bool
hears Source w = source.hears_in w.port.source.record
hears Sink w = sink.hears_in w.port.sink
hears Plug w = plug.hears_in w.port.plug

-- The revision bits of what a side sends on a channel, GoodCRCs included: on SOP its engine's, on SOP' 10, USB Power
-- Delivery 3.0. A packet has those of the time at which it starts first.
abbrev pub revision_on : Side → Channel → PortStep → ℕ
revision_on Source Sop w = source.revision_bits w.port.source.record
revision_on Source SopPrime w = 2
revision_on Sink channel w = sink.revision_bits w.port.sink
revision_on Plug channel w = 2

-- ## A packet starts

-- the line is this
unfoldable pub with_line : Line → PortStep → PortStep
with_line line w = with_port (record w.port { line = line }) w

-- this starts on the line
unfoldable pub started : Start → PortStep → PortStep
started s w = record w { start = Some s }

-- what a step has started that leaves this on the line
abbrev pub start_on : Line → Option Start
start_on (Message side p fate end) = Some (start.Packet side p fate)
start_on (GoodCrc side p a fate end) = Some (start.Packet (receiver side p.channel) a fate)
start_on (HardReset side end) = Some (start.HardReset side)
start_on line = None

-- what a disturbance makes of a packet
abbrev pub fate_of : Disturbance → Fate
fate_of disturbance.Lost = LostOnTheWay
fate_of (disturbance.Damaged damage) = DamagedOnTheWay damage

-- the first disturbance that waits, and the step without it; an undisturbed packet where none waits
abbrev pub taken_from : List Disturbance → PortStep → PortStep × Fate
taken_from [] w = (w, Undisturbed)
taken_from (d ∷ rest) w = (with_port (record w.port { disturbances = rest }) w, fate_of d)

-- Each packet that starts takes the first disturbance that waits on the port, GoodCRC included.
unfoldable pub taken : PortStep → PortStep × Fate
taken w = taken_from w.port.disturbances w

-- a message's packet starts: from its layer, or again (N4)
unfoldable pub packet_starts : Side → Contents → ℕ → PortStep → PortStep
packet_starts side p t w =
    let r = taken w in started (start.Packet side p r.1) (with_line (Message side p r.1 (t + lasts p)) r.0)

-- ## N1: what waits starts where the line is idle

-- what waits on a side
abbrev pub waiting_on : Side → PortStep → Waiting
waiting_on Source w = w.port.source_waits
waiting_on Sink w = w.port.sink_waits
waiting_on Plug w = w.port.plug_waits

-- whether nothing is on the line
abbrev pub is_idle : Line → Bool
is_idle Idle = true
is_idle line = false

-- whether anything waits
abbrev pub is_waiting : Waiting → Bool
is_waiting waits.Nothing = false
is_waiting waiting = true

-- the layer gives the packet, which starts; or has no room for the message, which waits on
abbrev pub submitted : Side → ℕ → PortStep × Result Contents MessageData → PortStep
submitted side t (w, Ok p) = packet_starts side p t w
submitted side t (w, Err m) = wait side (waits.Message m) w

-- A message goes to its layer at the moment at which it starts, and takes its MessageID and its revision.
unfoldable pub message_starts : Side → MessageData → ℕ → PortStep → PortStep
message_starts side m t w =
    let channel = channel_for side m.kind in submitted side t (submit_on side channel m (revision_on side channel w) w)

-- A Hard Reset starts. It goes to no layer, and takes no disturbance.
unfoldable pub hard_reset_starts : Side → ℕ → PortStep → PortStep
hard_reset_starts side t w = started (start.HardReset side) (with_line (HardReset side (t + hard_reset_duration)) w)

-- by what waits: nothing, a message or a Hard Reset
abbrev pub waiting_starts : Side → ℕ → Waiting → PortStep → PortStep
waiting_starts side t waits.Nothing w = w
waiting_starts side t (waits.Message m) w = message_starts side m t w
waiting_starts side t waits.HardReset w = hard_reset_starts side t w

-- what waits on a side starts
unfoldable pub side_starts : Side → ℕ → PortStep → PortStep
side_starts side t w = waiting_starts side t (waiting_on side w) (wait side waits.Nothing w)

-- Where the line is idle, the first that waits starts, in the order source, sink, plug.
unfoldable pub line_starts : ℕ → PortStep → PortStep
line_starts t w =
    if is_idle w.port.line
    then (if is_waiting w.port.source_waits
    then side_starts Source t w
    else (if is_waiting w.port.sink_waits
    then side_starts Sink t w
    else (if is_waiting w.port.plug_waits then side_starts Plug t w else w)))
    else w

-- ## N2: a message ends, and its GoodCRC starts

-- what is left of a message: nothing, and the sender waits for the time-out; or the packet, and its GoodCRC comes next
abbrev pub message_heard : Side → Contents → ℕ → Option Contents → PortStep → PortStep
message_heard side p t None w = with_line (NoAnswer side p (t + time_out)) w
message_heard side p t (Some q) w = with_line (Pause side q (t + pause)) w

-- A message ends. Undisturbed and heard, it is followed by its GoodCRC, which starts 100 microseconds later. Else nothing comes
-- until the time-out.
unfoldable pub message_ends : Side → Contents → Fate → ℕ → PortStep → PortStep
message_ends side p fate t w =
    message_heard side p t (if hears (receiver side p.channel) w then heard p fate else None) w

-- The GoodCRC for a side's message starts, from the one that heard it.
unfoldable pub good_crc_starts : Side → Contents → ℕ → PortStep → PortStep
good_crc_starts side p t w =
    let hearer = receiver side p.channel in
    let a = acknowledges hearer (revision_on hearer p.channel w) p in
    let r = taken w in
    started (start.Packet hearer a r.1) (with_line (GoodCrc side p a r.1 (t + lasts a)) r.0)

-- ## N3: a GoodCRC ends

-- by what the layer says of the GoodCRC: the message was sent, or this is another's
abbrev pub told_sent : Side → Contents → ℕ → LayerAct → PortStep → PortStep
told_sent side p t answer.Sent w = tells_sent side (sent_as (kind_of_header p.header)) t w
told_sent side p t act w = w

-- What is left of a GoodCRC: nothing, and the sender waits on; or the GoodCRC, whose MessageID goes to the sender's layer.
abbrev pub acknowledged : Side → Contents → ℕ → Option Contents → PortStep → PortStep
acknowledged side p t None w = with_line (NoAnswer side p (t + rest_of_time_out)) w
acknowledged side p t (Some a) w =
    let r = good_crc_on side p.channel (id_of a.header) w in told_sent side p t r.1 r.0

-- by what the layer says of the message: it goes up, or is a repeat
abbrev pub told_message : Side → Contents → ℕ → LayerAct → PortStep → PortStep
told_message side p t answer.Up w = tells_message side p t w
told_message side p t act w = w

-- the receiver's layer takes the message, and its engine is stepped with it where it goes up
unfoldable pub goes_up : Side → Contents → ℕ → PortStep → PortStep
goes_up side p t w = let r = received_on side p.channel p.header w in told_message side p t r.1 r.0

-- A GoodCRC ends. Undisturbed, it makes the line idle, and the sender's engine is stepped with Sent. In both cases the receiver's
-- layer takes the message, and its engine is stepped with it where it goes up.
unfoldable pub good_crc_ends : Side → Contents → Contents → Fate → ℕ → PortStep → PortStep
good_crc_ends side p a fate t w =
    goes_up (receiver side p.channel) p t (acknowledged side p t (heard a fate) w)

-- ## N4: the time-out

-- by what the layer says: the same packet starts again, or that was the last try of nRetryCount
abbrev pub after_time_out : Side → Contents → ℕ → LayerAct → PortStep → PortStep
after_time_out side p t (answer.Retry q) w = packet_starts side q t w
after_time_out side p t answer.Failed w = tells_failed side t (noted (NoGoodCrc side (kind_of_header p.header)) w)
after_time_out side p t act w = w

-- The time-out, where no undisturbed GoodCRC came. The same packet starts again at once, or, after its last try, the line is
-- idle, `no GoodCRC` is noted, and the sender's engine is stepped with Failed.
unfoldable pub times_out : Side → Contents → ℕ → PortStep → PortStep
times_out side p t w = let r = timed_out_on side p.channel w in after_time_out side p t r.1 r.0

-- ## N5: a Hard Reset ends

-- all that waits is dropped
unfoldable pub waiting_dropped : PortStep → PortStep
waiting_dropped w = wait Plug waits.Nothing (wait Sink waits.Nothing (wait Source waits.Nothing w))

-- all layers are reset
unfoldable pub layers_reset : PortStep → PortStep
layers_reset w = reset_on Plug SopPrime (reset_on Source SopPrime (reset_on Sink Sop (reset_on Source Sop w)))

-- whether a side is this one
abbrev pub is_side : Side → Side → Bool
is_side Source Source = true
is_side Sink Sink = true
is_side Plug Plug = true
is_side a b = false

-- a side that hears, and isn't the sender, is stepped with a Hard Reset
unfoldable pub hears_reset : Side → Side → ℕ → PortStep → PortStep
hears_reset sender side t w =
    if is_side side sender then w else (if hears side w then tells_reset side t w else w)

-- the sender's engine is stepped with Sent, and then each other side that hears with HardReset, in the order source, sink, plug
unfoldable pub all_hear_reset : Side → ℕ → PortStep → PortStep
all_hear_reset sender t w =
    hears_reset sender Plug t (hears_reset sender Sink t (hears_reset sender Source t (tells_sent sender sent.Other t w)))

-- A Hard Reset ends. All layers are reset and all that waits is dropped; then the engines are stepped.
unfoldable pub hard_reset_ends : Side → ℕ → PortStep → PortStep
hard_reset_ends sender t w = all_hear_reset sender t (layers_reset (waiting_dropped w))

-- ## The line's due

-- by what it is: N2 to N5
abbrev pub line_ends_at : Line → ℕ → PortStep → PortStep
line_ends_at Idle t w = w
line_ends_at (Message side p fate end) t w = message_ends side p fate t w
line_ends_at (Pause side p end) t w = good_crc_starts side p t w
line_ends_at (GoodCrc side p a fate end) t w = good_crc_ends side p a fate t w
line_ends_at (NoAnswer side p end) t w = times_out side p t w
line_ends_at (HardReset side end) t w = hard_reset_ends side t w

-- what is on the line has ended, and the line is idle but for what comes next
unfoldable pub line_ends : ℕ → PortStep → PortStep
line_ends t w = line_ends_at w.port.line t (with_line Idle w)
