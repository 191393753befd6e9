-- The lines that show a packet: this product's own.
use Rattle.std.specs.Prelude.{ℕ, List, ◌++◌, codes, decimal}
use Rattle.std.specs.List.{flat_map}
use Rattle.pd_symbols.specs.declared.channel.Channel.{Channel}
use Rattle.pd_symbols.specs.declared.channel.Channel.TheVariants.{Sop, SopPrime}
use Rattle.pd_symbols.specs.Hex.{hex_digits}
use Rattle.pd_header.specs.Header.{count_of, id_of}
use Rattle.pd_header.specs.Kinds.{kind_of_header, name_of}
use Rattle.pd_packet.specs.declared.fault.PacketFault.{PacketFault}
use Rattle.pd_packet.specs.Contents.{Contents}
use Rattle.pd_packet.specs.Reading.{number_of}
use Rattle.pd_packet.specs.Spelling.{check_of}

abbrev pub set_name : Channel → List ℕ
set_name Sop = codes "SOP"
set_name SopPrime = codes "SOP'"

abbrev pub set_line : Channel → List ℕ
set_line channel = codes "set " ++ set_name channel ++ codes "\n"

-- the header's 16 bits, the message's name, its ID and the count of its objects
abbrev pub header_line : ℕ → List ℕ
header_line header =
    codes "header " ++ hex_digits 4 header ++ codes " " ++ name_of (kind_of_header header)
    ++ codes " id " ++ decimal (id_of header) ++ codes " count " ++ decimal (count_of header) ++ codes "\n"

abbrev pub object_line : ℕ → List ℕ
object_line object = codes "object " ++ hex_digits 8 object ++ codes "\n"

abbrev pub check_line : ℕ → List ℕ
check_line check = codes "check " ++ hex_digits 8 check ++ codes "\n"

abbrev pub packet_text : Contents → List ℕ
packet_text packet =
    set_line packet.channel ++ header_line packet.header ++ flat_map object_line packet.objects
    ++ check_line (check_of packet)

abbrev pub fault_line : PacketFault → List ℕ
fault_line fault = codes "fault " ++ decimal (number_of fault) ++ codes "\n"

abbrev pub refused_line : List ℕ
refused_line = codes "input refused\n"
