-- What an object is, by its message and its bits (USB Power Delivery 3.0, sections 6.4.1, 6.4.2 and 6.4.4).
use Rattle.std.specs.Prelude.{ℕ, ◌==◌, ◌&&◌, Bool, true, false, List, codes, slice_index, if◌then◌else◌}
use Rattle.pd_symbols.specs.declared.channel.Channel.{Channel}
use Rattle.pd_symbols.specs.declared.channel.Channel.TheVariants.{Sop, SopPrime}
use Rattle.pd_symbols.specs.Words.{field}
use Rattle.pd_header.specs.declared.kind.Kind.{Kind}
use Rattle.pd_header.specs.declared.kind.Kind.TheVariants as message
use Rattle.pd_header.specs.Header.{extended_of}
use Rattle.pd_header.specs.Kinds.{kind_of_header}
use Rattle.pd_packet.specs.Contents.{Contents}
use Rattle.pd_identity.specs.Identity.{ack}
use Rattle.pd_content.specs.declared.kind.ObjectKind.{ObjectKind}
use Rattle.pd_content.specs.declared.kind.ObjectKind.TheVariants as object

-- a supply of a source, by bits 31 and 30; an augmented one, 11, is programmable where bits 29 and 28 are 00
abbrev pub source_supply : ℕ → ObjectKind
source_supply w =
    if field w 31 30 == 0 then object.FixedSupply else if field w 31 30 == 1 then object.BatterySupply
    else if field w 31 30 == 2 then object.VariableSupply else if field w 29 28 == 0 then object.ProgrammableSupply
    else object.Other

-- a supply of a sink, likewise
abbrev pub sink_supply : ℕ → ObjectKind
sink_supply w =
    if field w 31 30 == 0 then object.SinkFixedSupply else if field w 31 30 == 1 then object.SinkBatterySupply
    else if field w 31 30 == 2 then object.SinkVariableSupply else object.Other

-- A request for a fixed or variable supply. The message doesn't tell what kind of supply is asked for: it is taken for these.
-- With the flag GiveBack its second current is the least.
abbrev pub request : ℕ → ObjectKind
request w = if field w 27 27 == 1 then object.GiveBackRequest else object.Request

-- the header of a Vendor_Defined message, by bit 15
abbrev pub vendor_header : ℕ → ObjectKind
vendor_header w = if field w 15 15 == 1 then object.StructuredHeader else object.VendorHeader

-- the header of the answer ACK to Discover Identity: of the standard itself, structured, by its type and its command
abbrev pub is_identity_ack : ℕ → Bool
is_identity_ack w = field w 31 16 == 0xFF00 && (field w 15 15 == 1 && (field w 7 6 == ack && field w 4 0 == 1))

-- An object behind the header of a Vendor_Defined message. Of an ACK to Discover Identity the second is the ID Header, and of
-- a passive cable the fifth tells what the cable carries.
abbrev pub identity : Channel → List ℕ → ℕ → ObjectKind
identity channel objects index =
    if is_identity_ack (slice_index objects 0) then of_ack channel else object.Other
  where
    of_ack : Channel → ObjectKind
    of_ack Sop = if index == 1 then object.IdHeader else object.Other
    of_ack SopPrime =
        if index == 1 then object.CableIdHeader
        else if index == 4 && field (slice_index objects 1) 29 27 == 3 then object.PassiveCable else object.Other

-- the object at a place, from 0; those of an extended message aren't read
abbrev pub kind_at : Contents → ℕ → ObjectKind
kind_at p index = if extended_of p.header then object.Other else by_message (kind_of_header p.header)
  where
    by_message : Kind → ObjectKind
    by_message message.SourceCapabilities = source_supply (slice_index p.objects index)
    by_message message.SinkCapabilities = sink_supply (slice_index p.objects index)
    by_message message.Request = request (slice_index p.objects index)
    by_message message.VendorDefined =
        if index == 0 then vendor_header (slice_index p.objects 0) else identity p.channel p.objects index
    by_message _ = object.Other

-- the name that is shown
abbrev pub kind_name : ObjectKind → List ℕ
kind_name object.FixedSupply = codes "fixed"
kind_name object.SinkFixedSupply = codes "fixed"
kind_name object.BatterySupply = codes "battery"
kind_name object.SinkBatterySupply = codes "battery"
kind_name object.VariableSupply = codes "variable"
kind_name object.SinkVariableSupply = codes "variable"
kind_name object.ProgrammableSupply = codes "programmable"
kind_name object.Request = codes "request"
kind_name object.GiveBackRequest = codes "request"
kind_name object.StructuredHeader = codes "structured"
kind_name object.VendorHeader = codes "unstructured"
kind_name object.IdHeader = codes "id_header"
kind_name object.CableIdHeader = codes "cable_id_header"
kind_name object.PassiveCable = codes "passive_cable"
kind_name object.Other = codes "object"
