-- What a line of a log says, as a JSON object: this product's own keys.
use Rattle.std.specs.Prelude.{ℕ, List, [], ◌∷◌, ◌++◌, codes, decimal, Option, Some, None}
use Rattle.pd_header.specs.Header.{count_of}
use Rattle.pd_packet.specs.declared.fault.PacketFault.{PacketFault}
use Rattle.pd_packet.specs.Reading.{number_of}
use Rattle.pd_log.specs.declared.mark.Mark.{Mark}
use Rattle.pd_log.specs.declared.mark.Mark.TheVariants.{Whole, Lost, Damaged}
use Rattle.pd_log.specs.declared.answer.Answer.{Answer}
use Rattle.pd_log.specs.declared.answer.LogPacket.{LogPacket}
use Rattle.pd_log.specs.declared.sets.PacketSet.{PacketSet}
use Rattle.pd_log.specs.declared.answer.Answer.TheVariants.{Nothing, Packet, Supplies, Bytes, Either, Fault, HardReset}
use Rattle.pd_log.specs.declared.answer.Answer.TheVariants.{CableReset, Header, Miscounted, Spoiled, Unknown}
use Rattle.pd_text.specs.Strings.{string_text}
use Rattle.pd_log.specs.Names.{header_object, packet_object}
use Rattle.pd_log.specs.Lines.{fault_words}

abbrev pub mark_name : Mark → List ℕ
mark_name Whole = codes "whole"
mark_name Lost = codes "lost"
mark_name Damaged = codes "damaged"

unfoldable pub mark_member : Mark → List ℕ
mark_member mark = codes ",\"mark\":\"" ++ (mark_name mark ++ 34 ∷ [])

unfoldable pub reason_member : PacketFault → List ℕ
reason_member fault = codes ",\"reason\":\"" ++ (fault_words fault ++ 34 ∷ [])

unfoldable pub fault_members : PacketFault → ℕ → List ℕ
fault_members fault at =
    codes "\"fault\",\"fault\":" ++ (decimal (number_of fault) ++ (codes ",\"at_code\":" ++ (decimal at ++ reason_member fault)))

unfoldable pub told_member : ℕ → List ℕ
told_member header = codes ",\"objects_told\":" ++ decimal (count_of header)

unfoldable pub counts_members : PacketSet → ℕ → ℕ → List ℕ
counts_members set header there =
    codes "\"header\",\"objects_there\":" ++ (decimal there ++ (told_member header ++ (codes "," ++ header_object set header)))

unfoldable pub reset_members : Mark → List ℕ
reset_members mark = codes "\"hard_reset\"" ++ mark_member mark

unfoldable pub cable_members : Mark → List ℕ
cable_members mark = codes "\"cable_reset\"" ++ mark_member mark

-- a packet whose supplies are a kernel's words
unfoldable pub supplies_members : LogPacket → List ℕ
supplies_members p = codes "\"packet\",\"mark\":\"whole\",\"read_as\":\"words\"," ++ packet_object p

-- a packet that was read as bytes
unfoldable pub bytes_members : LogPacket → List ℕ
bytes_members p = codes "\"packet\",\"mark\":\"whole\",\"read_as\":\"bytes\"," ++ packet_object p

-- a packet of words, and that of the bytes
unfoldable pub either_members : LogPacket → LogPacket → List ℕ
either_members p q =
    codes "\"packet\",\"mark\":\"whole\"," ++ (packet_object p ++ (codes ",\"or_as_bytes\":{" ++ (packet_object q ++ codes "}")))

-- the kind, and the members of that kind
unfoldable pub members : Answer → List ℕ
members Nothing = codes "\"nothing\""
members (Packet p mark) = codes "\"packet\"" ++ (mark_member mark ++ 44 ∷ packet_object p)
members (Supplies p) = supplies_members p
members (Bytes p) = bytes_members p
members (Either p q) = either_members p q
members (Fault fault at mark) = fault_members fault at ++ mark_member mark
members (HardReset mark) = reset_members mark
members (CableReset mark) = cable_members mark
members (Header set header) = counts_members set header 0
members (Miscounted set header there) = counts_members set header there
members Spoiled = codes "\"damaged\""
members Unknown = codes "\"unknown\""

-- a log's own time, which has nothing that a string escapes
unfoldable pub time_member : Option (List ℕ) → List ℕ
time_member None = []
time_member (Some time) = codes ",\"log_time\":\"" ++ (time ++ 34 ∷ [])

-- the log's own line
unfoldable pub line_member : Option (List ℕ) → List ℕ
line_member None = []
line_member (Some line) = codes ",\"log_line\":" ++ string_text line

-- the kind of a line and the members of that kind, which end the object
unfoldable pub last_members : Answer → List ℕ
last_members answer = codes ",\"kind\":" ++ (members answer ++ codes "}\n")

unfoldable pub json_text : ℕ → Option (List ℕ) → Option (List ℕ) → Answer → List ℕ
json_text n time line Nothing = []
json_text n time line answer =
    codes "{\"line\":" ++ (decimal n ++ (time_member time ++ (line_member line ++ last_members answer)))
