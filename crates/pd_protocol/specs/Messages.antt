-- Messages, and the packets that carry them (USB Power Delivery 3.0, section 6.2).
use Rattle.std.specs.Prelude.{ℕ, ◌^◌, ◌<◌, ◌≤◌, Bool, true, false, List, [], length}
use Rattle.std.specs.List.{AllByRecursion}
use Rattle.pd_symbols.specs.declared.channel.Channel.{Channel}
use Rattle.pd_symbols.specs.declared.channel.Channel.TheVariants.{Sop, SopPrime}
use Rattle.pd_packet.specs.Contents.{Contents}
use Rattle.pd_header.specs.declared.side.Side.{Side}
use Rattle.pd_header.specs.declared.side.Side.TheVariants.{Source, Sink, Plug}
use Rattle.pd_header.specs.declared.kind.Kind.{Kind}
use Rattle.pd_header.specs.declared.kind.Kind.TheVariants.{GoodCrc}
use Rattle.pd_header.specs.Header.{HeaderData, packed, id_of}
use Rattle.pd_header.specs.Kinds.{number_of}

-- what a side sends: its type in the header, and its objects
pub record MessageData : Type 0 where
  pub kind : ℕ
  pub objects : List ℕ

-- a type of five bits, and at most seven objects of 32
pub record IsMessage (m : MessageData) : Type 0 where
  pub kind_fits : m.kind < 2 ^ 5
  pub few : length m.objects ≤ 7
  pub objects_fit : AllByRecursion (λ w. w < 2 ^ 32) m.objects

-- the message of a kind with these objects, and a control message, which has none
abbrev pub message_of : Kind → List ℕ → MessageData
message_of kind objects = record { kind = number_of kind; objects = objects }

abbrev pub control : Kind → MessageData
control kind = message_of kind []

-- bit 8: on SOP whether the source speaks, and on SOP' whether the plug does
abbrev pub role_of : Channel → Side → Bool
role_of Sop Source = true
role_of Sop Sink = false
role_of Sop Plug = false
role_of SopPrime Source = false
role_of SopPrime Sink = false
role_of SopPrime Plug = true

-- bit 5: on SOP whether the source speaks, which is the downstream facing port; on SOP' it is reserved
abbrev pub data_role_of : Channel → Side → Bool
data_role_of Sop Source = true
data_role_of Sop Sink = false
data_role_of Sop Plug = false
data_role_of SopPrime side = false

abbrev pub header_data : Side → Channel → ℕ → ℕ → ℕ → ℕ → HeaderData
header_data side channel revision id kind count =
    record {
      extended = false;
      count = count;
      id = id;
      role = role_of channel side;
      revision = revision;
      data_role = data_role_of channel side;
      kind = kind;
    }

-- the header of a side's message on a channel, with these revision bits, this ID, type and count of objects
unfoldable pub header_of : Side → Channel → ℕ → ℕ → ℕ → ℕ → ℕ
header_of side channel revision id kind count = packed (header_data side channel revision id kind count)

-- the packet that carries a side's message
unfoldable pub packet_of : Side → Channel → ℕ → ℕ → MessageData → Contents
packet_of side channel revision id m =
    record { channel = channel; header = header_of side channel revision id m.kind (length m.objects); objects = m.objects }

-- the GoodCRC with which a side that heard a packet acknowledges it (section 6.3.1): on its channel, with its ID and
-- without objects
unfoldable pub acknowledges : Side → ℕ → Contents → Contents
acknowledges hearer revision p = packet_of hearer p.channel revision (id_of p.header) (control GoodCrc)
