-- The messages of USB Power Delivery 3.0 by the standard's names (sections 6.3, 6.4 and 6.5), with those that revision 3.1 adds.
use Rattle.std.specs.Prelude.{◌≡◌, ℕ, ◌==◌, List, [], ◌∷◌, ◌++◌, codes, find, length, Option, Some, option_map, unwrap_or}
use Rattle.std.specs.Prelude.{if◌then◌else◌}
use Rattle.std.specs.List.{AllByRecursion}
use Rattle.pd_symbols.specs.declared.channel.Channel.{Channel}
use Rattle.pd_header.specs.declared.kind.Kind.{Kind}
use Rattle.pd_header.specs.Header.{count_of, extended_of, type_of}
use Rattle.pd_header.specs.Kinds as bench
use Rattle.pd_packet.specs.Contents.{Contents}
use Rattle.pd_content.specs.Texts.{fields_text, message_name, objects_text, set_name}
use Rattle.pd_content.specs.Units.{quoted}
use Rattle.pd_content.specs.Members.{members, objects_json}
use Rattle.pd_content.specs.Rows.{header_rows}
use Rattle.pd_symbols.specs.Hex.{hex_digits}
use Rattle.pd_log.specs.declared.answer.LogPacket.{LogPacket}
use Rattle.pd_log.specs.declared.names.Family.{Family}
use Rattle.pd_log.specs.declared.names.Family.TheVariants.{Control, Data, Extended}
use Rattle.pd_log.specs.declared.sets.PacketSet.{PacketSet}
use Rattle.pd_log.specs.Sets.{channel_of, text_of}

-- a message: its type in the header, and its name
pub record NameRow : Type 0 where
  pub number : ℕ
  pub name : List ℕ

abbrev row : ℕ → List ℕ → NameRow
row number name = record { number = number; name = name }

-- the table: control messages have no objects, data messages have one at the least, and the header of an extended one says that it is
abbrev pub messages : Family → List NameRow
messages Control =
    row 1 (codes "GoodCRC")
    ∷ row 2 (codes "GotoMin")
    ∷ row 3 (codes "Accept")
    ∷ row 4 (codes "Reject")
    ∷ row 5 (codes "Ping")
    ∷ row 6 (codes "PS_RDY")
    ∷ row 7 (codes "Get_Source_Cap")
    ∷ row 8 (codes "Get_Sink_Cap")
    ∷ row 9 (codes "DR_Swap")
    ∷ row 10 (codes "PR_Swap")
    ∷ row 11 (codes "VCONN_Swap")
    ∷ row 12 (codes "Wait")
    ∷ row 13 (codes "Soft_Reset")
    ∷ row 14 (codes "Data_Reset")
    ∷ row 15 (codes "Data_Reset_Complete")
    ∷ row 16 (codes "Not_Supported")
    ∷ row 17 (codes "Get_Source_Cap_Extended")
    ∷ row 18 (codes "Get_Status")
    ∷ row 19 (codes "FR_Swap")
    ∷ row 20 (codes "Get_PPS_Status")
    ∷ row 21 (codes "Get_Country_Codes")
    ∷ row 22 (codes "Get_Sink_Cap_Extended")
    ∷ row 23 (codes "Get_Source_Info")
    ∷ row 24 (codes "Get_Revision") ∷ []
messages Data =
    row 1 (codes "Source_Capabilities")
    ∷ row 2 (codes "Request")
    ∷ row 3 (codes "BIST")
    ∷ row 4 (codes "Sink_Capabilities")
    ∷ row 5 (codes "Battery_Status")
    ∷ row 6 (codes "Alert")
    ∷ row 7 (codes "Get_Country_Info")
    ∷ row 8 (codes "Enter_USB")
    ∷ row 9 (codes "EPR_Request")
    ∷ row 10 (codes "EPR_Mode")
    ∷ row 11 (codes "Source_Info")
    ∷ row 12 (codes "Revision")
    ∷ row 15 (codes "Vendor_Defined") ∷ []
messages Extended =
    row 1 (codes "Source_Capabilities_Extended")
    ∷ row 2 (codes "Status")
    ∷ row 3 (codes "Get_Battery_Cap")
    ∷ row 4 (codes "Get_Battery_Status")
    ∷ row 5 (codes "Battery_Capabilities")
    ∷ row 6 (codes "Get_Manufacturer_Info")
    ∷ row 7 (codes "Manufacturer_Info")
    ∷ row 8 (codes "Security_Request")
    ∷ row 9 (codes "Security_Response")
    ∷ row 10 (codes "Firmware_Update_Request")
    ∷ row 11 (codes "Firmware_Update_Response")
    ∷ row 12 (codes "PPS_Status")
    ∷ row 13 (codes "Country_Info")
    ∷ row 14 (codes "Country_Codes")
    ∷ row 15 (codes "Sink_Capabilities_Extended")
    ∷ row 16 (codes "Extended_Control")
    ∷ row 17 (codes "EPR_Source_Capabilities")
    ∷ row 18 (codes "EPR_Sink_Capabilities")
    ∷ row 30 (codes "Vendor_Defined_Extended") ∷ []

-- the name of a message of the table
abbrev pub named_in : Family → ℕ → Option (List ℕ)
named_in family number = option_map (λ row. row.name) (find (λ row. row.number == number) (messages family))

abbrev pub family_of : ℕ → Family
family_of header = if extended_of header then Extended else if count_of header == 0 then Control else Data

-- the name of the message that a header tells; of one that the table lacks, the bench's own
abbrev pub log_name : ℕ → List ℕ
log_name header = unwrap_or (named_in (family_of header) (type_of header)) (message_name header)

-- what a header and a packet begin with as a line of text: their set, and the name of their message as the bench's own commands tell
-- it, and as logs do
unfoldable pub bench_head : Channel → ℕ → List ℕ
bench_head channel header = set_name channel ++ 32 ∷ message_name header

unfoldable pub log_head : PacketSet → ℕ → List ℕ
log_head set header = text_of set ++ 32 ∷ log_name header

-- what stands behind that
unfoldable pub header_behind : Channel → ℕ → List ℕ
header_behind channel header = fields_text (header_rows channel) header

unfoldable pub packet_behind : Contents → List ℕ
packet_behind p = fields_text (header_rows p.channel) p.header ++ objects_text p (length p.objects)

-- a header, and a packet
unfoldable pub header_line : PacketSet → ℕ → List ℕ
header_line set header = log_head set header ++ header_behind (channel_of set) header

unfoldable pub packet_line : LogPacket → List ℕ
packet_line p = log_head p.set p.packet.header ++ packet_behind p.packet

-- the same as members of a JSON object
unfoldable pub bench_member_head : Channel → ℕ → List ℕ
bench_member_head channel header = codes "\"set\":\"" ++ (set_name channel ++ (codes "\",\"message\":\"" ++ message_name header))

unfoldable pub log_member_head : PacketSet → ℕ → List ℕ
log_member_head set header = codes "\"set\":\"" ++ (text_of set ++ (codes "\",\"message\":\"" ++ log_name header))

unfoldable pub header_members_behind : Channel → ℕ → List ℕ
header_members_behind channel header = codes "\",\"header\":" ++ (quoted (hex_digits 4 header) ++ members (header_rows channel) header)

unfoldable pub packet_members_behind : Contents → List ℕ
packet_members_behind p =
    header_members_behind p.channel p.header ++ (codes ",\"objects\":[" ++ (objects_json p (length p.objects) ++ 93 ∷ []))

unfoldable pub header_object : PacketSet → ℕ → List ℕ
header_object set header = log_member_head set header ++ header_members_behind (channel_of set) header

unfoldable pub packet_object : LogPacket → List ℕ
packet_object p = log_member_head p.set p.packet.header ++ packet_members_behind p.packet

-- A message that the bench's own ports know has the name by which the bench tells it.
abbrev pub SameName : Family → Kind → Type 0
SameName family kind = named_in family (bench.number_of kind) ≡ Some (bench.name_of kind)

pub record BenchNamesStand : Type 0 where
  pub without_objects : AllByRecursion (SameName Control) bench.control_messages
  pub with_objects : AllByRecursion (SameName Data) bench.data_messages
