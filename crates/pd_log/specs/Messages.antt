-- A header and objects as a packet.
use Rattle.std.specs.Prelude.{ℕ, ◌==◌, List, length, if◌then◌else◌}
use Rattle.pd_header.specs.Header.{count_of}
use Rattle.pd_log.specs.declared.answer.Answer.{Answer}
use Rattle.pd_log.specs.declared.answer.Answer.TheVariants.{Packet, Header, Miscounted}
use Rattle.pd_log.specs.declared.answer.LogPacket.{LogPacket}
use Rattle.pd_log.specs.declared.mark.Mark.TheVariants.{Whole}
use Rattle.pd_log.specs.declared.sets.PacketSet.{PacketSet}
use Rattle.pd_log.specs.Sets.{channel_of}

-- the packet of a set
abbrev pub packet_on : PacketSet → ℕ → List ℕ → LogPacket
packet_on set header objects =
    record { set = set; packet = record { channel = channel_of set; header = header; objects = objects } }

-- What a header and objects come to: a packet where there are as many objects as the header tells; else the header, where there are none.
abbrev pub words_answer : PacketSet → ℕ → List ℕ → Answer
words_answer set header objects =
    if count_of header == length objects then Packet (packet_on set header objects) Whole
    else if length objects == 0 then Header set header
    else Miscounted set header (length objects)
