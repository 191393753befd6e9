-- What a step of a port says, as members of a JSON object, each behind a comma: this product's own keys, with a number's unit at
-- the end of its key. Each text is one of this product's words, a name of the standard, or digits: none has a character for which
-- JSON has another spelling.
use Rattle.std.specs.Prelude.{ℕ, Bool, true, false, List, [], ◌∷◌, ◌++◌, Option, Some, None, codes, decimal}
use Rattle.std.specs.List.{flat_map}
use Rattle.pd_symbols.specs.Hex.{hex_digits}
use Rattle.pd_symbols.specs.Sets.{set_codes}
use Rattle.pd_symbols.specs.declared.channel.OrderedSet.TheVariants as ordered
use Rattle.pd_header.specs.Kinds.{name_of}
use Rattle.pd_header.specs.declared.kind.Kind.{Kind}
use Rattle.pd_header.specs.declared.side.Side.{Side}
use Rattle.pd_packet.specs.declared.fate.Fate.{Fate}
use Rattle.pd_packet.specs.declared.fate.Fate.TheVariants.{Undisturbed, Lost, Damaged}
use Rattle.pd_packet.specs.Contents.{Contents}
use Rattle.pd_packet.specs.Hearing.{shown}
use Rattle.pd_objects.specs.Supply.{SupplyData}
use Rattle.pd_objects.specs.declared.contract.Contract.{Contract}
use Rattle.pd_objects.specs.declared.query.Query.{Query}
use Rattle.pd_objects.specs.declared.query.Query.TheVariants as query
use Rattle.pd_objects.specs.declared.query.Answer.{Answer}
use Rattle.pd_objects.specs.declared.query.Answer.TheVariants as answer
use Rattle.pd_setup.specs.Events.{PortEventKind}
use Rattle.pd_setup.specs.declared.event.EventKind.TheVariants as kind
use Rattle.pd_setup.specs.declared.event.Happening.{Happening}
use Rattle.pd_setup.specs.declared.event.Happening.TheVariants.{Port, Budget}
use Rattle.pd_source.specs.declared.kinds.State as source
use Rattle.pd_sink.specs.declared.kinds.State as sink
use Rattle.pd_line.specs.declared.notes.Fault.{Fault}
use Rattle.pd_line.specs.declared.notes.Fault.TheVariants as fault
use Rattle.pd_line.specs.declared.notes.Start.{Start}
use Rattle.pd_line.specs.declared.notes.Start.TheVariants as start
use Rattle.pd_device.specs.Text.{code_text}
use Rattle.pd_content.specs.Members.{packet_members}
use Rattle.pd_tell.specs.Words.{side_words, sink_name, source_name}

-- a number behind its key
unfoldable pub number_member : List ℕ → ℕ → List ℕ
number_member key n = codes ",\"" ++ (key ++ (codes "\":" ++ decimal n))

-- a text behind its key
unfoldable pub text_member : List ℕ → List ℕ → List ℕ
text_member key text = codes ",\"" ++ (key ++ (codes "\":\"" ++ (text ++ codes "\"")))

-- ---- what falls due

abbrev pub event_kind : Happening → List ℕ
event_kind (Port id kind) = codes "event"
event_kind Budget = codes "budget"

-- what happens to a port from outside, by the word of an edit script, and the power of a demand
abbrev pub port_event_members : PortEventKind → List ℕ
port_event_members (kind.Attach cable device) = text_member (codes "event") (codes "attach")
port_event_members kind.Detach = text_member (codes "event") (codes "detach")
port_event_members (kind.Demand mw) = text_member (codes "event") (codes "demand") ++ number_member (codes "demand_mw") mw
port_event_members kind.Lose = text_member (codes "event") (codes "lose")
port_event_members (kind.Damage harm) = text_member (codes "event") (codes "damage")
port_event_members kind.GetSource = text_member (codes "event") (codes "get_source")
port_event_members kind.GetSink = text_member (codes "event") (codes "get_sink")

-- an event of the port with its id; of a change of the budget what it is from then on
abbrev pub event_members : Happening → ℕ → List ℕ
event_members (Port id kind) budget = number_member (codes "id") id ++ port_event_members kind
event_members Budget budget = number_member (codes "budget_uw") budget

-- ---- what went wrong

abbrev pub of_side : List ℕ → Side → List ℕ
of_side name side = text_member (codes "fault") name ++ text_member (codes "side") (side_words side)

abbrev pub of_event : List ℕ → ℕ → List ℕ
of_event name id = text_member (codes "fault") name ++ number_member (codes "id") id

abbrev pub no_goodcrc_members : Side → Kind → List ℕ
no_goodcrc_members side kind = of_side (codes "no_goodcrc") side ++ text_member (codes "message") (name_of kind)

abbrev pub fault_members : Fault → List ℕ
fault_members (fault.NoGoodCrc side kind) = no_goodcrc_members side kind
fault_members (fault.SoftReset side) = of_side (codes "soft_reset") side
fault_members (fault.HardReset side) = of_side (codes "hard_reset") side
fault_members fault.SourceDisabled = text_member (codes "fault") (codes "source_disabled")
fault_members fault.SinkDisabled = text_member (codes "fault") (codes "sink_disabled")
fault_members fault.CableUnread = text_member (codes "fault") (codes "cable_unread")
fault_members fault.Mismatch = text_member (codes "fault") (codes "mismatch")
fault_members fault.Reject = text_member (codes "fault") (codes "reject")
fault_members fault.Wait = text_member (codes "fault") (codes "wait")
fault_members (fault.Ignored id) = of_event (codes "event_ignored") id

-- ---- what is asked of the shared budget, and answered

abbrev pub asked_kind : Query → List ℕ
asked_kind (query.Offer supplies limit) = codes "offer"
asked_kind (query.Fits power) = codes "request"
asked_kind (query.Keep power) = codes "keep"

-- the first member, which stands behind no comma
unfoldable pub voltage_json : ℕ → List ℕ
voltage_json mv = codes "\"voltage_mv\":" ++ decimal mv

-- a supply as it may be offered: its voltage, the current that is answered, and its own
unfoldable pub supply_json : SupplyData → ℕ → List ℕ
supply_json s ma =
    123 ∷ (voltage_json s.mv ++ (number_member (codes "current_ma") ma ++ (number_member (codes "configured_ma") s.ma ++ 125 ∷ [])))

-- supplies with the current that is answered for each, each behind a comma
abbrev pub more_supplies : List SupplyData → List ℕ → List ℕ
more_supplies [] currents = []
more_supplies (s ∷ more) [] = []
more_supplies (s ∷ more) (ma ∷ others) = 44 ∷ (supply_json s ma ++ more_supplies more others)

-- the same, the first of them behind none
abbrev pub supplies_json : List SupplyData → List ℕ → List ℕ
supplies_json [] currents = []
supplies_json (s ∷ more) [] = []
supplies_json (s ∷ more) (ma ∷ others) = supply_json s ma ++ more_supplies more others

-- the currents that are answered
abbrev pub currents_of : Option Answer → List ℕ
currents_of None = []
currents_of (Some (answer.Offer currents)) = currents.items
currents_of (Some (answer.Fits fits)) = []

-- whether a power may be held, if that is answered
abbrev pub granted_member : Option Answer → List ℕ
granted_member None = codes ",\"granted\":null"
granted_member (Some (answer.Offer currents)) = codes ",\"granted\":null"
granted_member (Some (answer.Fits true)) = codes ",\"granted\":true"
granted_member (Some (answer.Fits false)) = codes ",\"granted\":false"

-- an offer through a cable that carries so much
abbrev pub offer_members : List SupplyData → ℕ → List ℕ → List ℕ
offer_members supplies limit currents =
    number_member (codes "cable_ma") limit ++ (codes ",\"supplies\":[" ++ (supplies_json supplies currents ++ codes "]"))

abbrev pub power_members : ℕ → Option Answer → List ℕ
power_members power a = number_member (codes "power_uw") power ++ granted_member a

abbrev pub asked_members : Query → Option Answer → List ℕ
asked_members (query.Offer supplies limit) a = offer_members supplies.items limit (currents_of a)
asked_members (query.Fits power) a = power_members power a
asked_members (query.Keep power) a = power_members power a

-- ---- contracts and holds

-- a contract: the place of the supply in the offer, its voltage, and the maximum operating current
abbrev pub contract_members : Contract → List ℕ
contract_members c =
    number_member (codes "position") c.position ++ (number_member (codes "voltage_mv") c.mv ++ number_member (codes "current_ma") c.ma)

-- what the port holds of the budget before and after, in microwatts
abbrev pub hold_members : ℕ → ℕ → List ℕ
hold_members before after = number_member (codes "before_uw") before ++ number_member (codes "after_uw") after

-- ---- what starts on the line

abbrev pub start_kind : Start → List ℕ
start_kind (start.Packet side packet fate) = codes "packet"
start_kind (start.HardReset side) = codes "hard_reset"

-- what becomes of a packet
abbrev pub fate_name : Fate → List ℕ
fate_name Undisturbed = codes "whole"
fate_name Lost = codes "lost"
fate_name (Damaged harm) = codes "damaged"

-- the event whose disturbance it is
abbrev pub by_member : Option ℕ → List ℕ
by_member None = codes ",\"by_event\":null"
by_member (Some id) = number_member (codes "by_event") id

-- codes with a space between them
abbrev pub codes_text : List ℕ → List ℕ
codes_text [] = []
codes_text (c ∷ cs) = hex_digits 2 c ++ flat_map code_text cs

-- the codes, where they are wanted
abbrev pub codes_member : Bool → List ℕ → List ℕ
codes_member true cs = codes ",\"codes\":\"" ++ (codes_text cs ++ codes "\"")
codes_member false cs = []

-- a packet with its side, what becomes of it and the event that does it, and its content
abbrev pub fated_members : Option ℕ → Side → Contents → Fate → List ℕ
fated_members by side packet fate =
    text_member (codes "side") (side_words side) ++ (text_member (codes "fate") (fate_name fate)
    ++ (by_member by ++ (44 ∷ packet_members packet)))

abbrev pub start_members : Bool → Option ℕ → Start → List ℕ
start_members with_codes by (start.Packet side packet fate) =
    fated_members by side packet fate ++ codes_member with_codes (shown packet fate)
start_members with_codes by (start.HardReset side) =
    text_member (codes "side") (side_words side) ++ codes_member with_codes (set_codes ordered.HardReset)

-- ---- the states that the source and the sink are in, by the names of the standard

abbrev pub state_members : source.State → sink.State → List ℕ
state_members s k = text_member (codes "source") (source_name s) ++ text_member (codes "sink") (sink_name k)
