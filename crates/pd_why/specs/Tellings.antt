-- What each fact says, piece by piece: this product's own words, in the units of an engineer, and its own keys, with a number's unit
-- at the end of its key. docs/FORMATS.md has both under What bounds a port.
use Rattle.std.specs.Prelude.{ℕ, ◌*◌, nat_le, Bool, true, false, List, [], ◌∷◌, Option, Some, None, codes}
use Rattle.std.specs.List.{flat_map}
use Rattle.pd_header.specs.Kinds.{name_of}
use Rattle.pd_header.specs.declared.side.Side.{Side}
use Rattle.pd_objects.specs.declared.contract.Contract.{Contract}
use Rattle.pd_setup.specs.declared.sink.SinkMode.{SinkMode}
use Rattle.pd_setup.specs.declared.sink.SinkMode.TheVariants as mode
use Rattle.pd_source.specs.declared.kinds.State.{State}
use Rattle.pd_source.specs.declared.kinds.State.TheVariants as state
use Rattle.pd_line.specs.declared.notes.Fault.{Fault}
use Rattle.pd_line.specs.declared.notes.Fault.TheVariants as fault
use Rattle.pd_port.specs.declared.entry.ContractChange.{ContractChange}
use Rattle.pd_port.specs.declared.entry.ContractChange.TheVariants as change
use Rattle.pd_tell.specs.Words.{side_words, source_name}
use Rattle.pd_why.specs.declared.bound.Bound.{Bound}
use Rattle.pd_why.specs.declared.bound.Bound.TheVariants.{Configured, Cable, Free}
use Rattle.pd_why.specs.declared.bound.Bounds.{Bounds}
use Rattle.pd_why.specs.declared.cable.CableLimit.{CableLimit}
use Rattle.pd_why.specs.declared.cable.CableLimit.TheVariants as known
use Rattle.pd_why.specs.declared.holder.Maker.{Maker}
use Rattle.pd_why.specs.declared.holder.Maker.TheVariants as maker
use Rattle.pd_why.specs.declared.fact.Fact.{Fact}
use Rattle.pd_why.specs.declared.fact.Fact.TheVariants as fact
use Rattle.pd_why.specs.Bounds.{sets}
use Rattle.pd_text.specs.declared.piece.Form.{Form}
use Rattle.pd_text.specs.declared.piece.Unit.TheVariants.{Plain, Microseconds, Millivolts, Milliamperes, Microwatts}
use Rattle.pd_text.specs.Pieces.{PieceData, kind, number, name, flag, names, line_words, line_number, member_number, member_null}
use Rattle.pd_text.specs.Pieces.{ListNameData}
use Rattle.pd_text.specs.Texts.{line_of}

-- ---- an offer, and what bounds it

-- a contract: the place of the supply in the offer, its voltage, and the maximum operating current
abbrev pub contract_pieces : List ℕ → Contract → List PieceData
contract_pieces words c =
    number words (codes "position") Plain c.position ∷ number (codes " ") (codes "voltage_mv") Millivolts c.mv
    ∷ number (codes " ") (codes "current_ma") Milliamperes c.ma ∷ []

-- what makes a port hold so much: its floor, its contract, the request that it has accepted, or the offer under way
abbrev pub maker_pieces : Maker → List PieceData
maker_pieces maker.Floor = name (codes ": floor") (codes "made_by") (codes "floor") ∷ []
maker_pieces (maker.Contract c) = name (codes ": contract ") (codes "made_by") (codes "contract") ∷ contract_pieces [] c
maker_pieces maker.Request = name (codes ": accepted request") (codes "made_by") (codes "request") ∷ []
maker_pieces maker.Offer = name (codes ": offer under way") (codes "made_by") (codes "offer") ∷ []

-- how the cable's limit is known
abbrev pub known_piece : CableLimit → PieceData
known_piece known.Unknown = name (codes ": not known yet") (codes "known") (codes "not_yet")
known_piece known.NotAsked = name (codes ": not asked") (codes "known") (codes "not_asked")
known_piece known.Told = name (codes ": its plug says so") (codes "known") (codes "told")
known_piece known.Nak = name (codes ": its plug says NAK") (codes "known") (codes "nak")
known_piece known.Busy = name (codes ": its plug says BUSY") (codes "known") (codes "busy")
known_piece known.Silent = name (codes ": no answer came") (codes "known") (codes "silent")
known_piece known.NoPlug = name (codes ": no plug acknowledged the question") (codes "known") (codes "no_plug")

-- how often it was asked: in the line only where that tells why it isn't known
abbrev pub tries_piece : CableLimit → ℕ → PieceData
tries_piece known.Busy tries = number (codes ", tries: ") (codes "tries") Plain tries
tries_piece known.Silent tries = number (codes ", tries: ") (codes "tries") Plain tries
tries_piece known.NoPlug tries = number (codes ", tries: ") (codes "tries") Plain tries
tries_piece _ tries = member_number (codes "tries") tries

-- a bound, which is listed where it sets the offered current
abbrev pub bound_name : Bounds → Bound → ListNameData
bound_name b Configured = record { is_listed = sets b Configured; words = codes " = configured"; text = codes "configured" }
bound_name b Cable = record { is_listed = sets b Cable; words = codes " = cable"; text = codes "cable" }
bound_name b Free = record { is_listed = sets b Free; words = codes " = free"; text = codes "free" }

abbrev pub bound_names : Bounds → List ListNameData
bound_names b = bound_name b Configured ∷ bound_name b Cable ∷ bound_name b Free ∷ []

-- ---- what the sink asks for, and why

-- how a sink behaves, by the word of a scenario file
abbrev pub mode_piece : SinkMode → PieceData
mode_piece mode.PowerDelivery = name [] (codes "mode") (codes "pd")
mode_piece mode.Plain = name [] (codes "mode") (codes "plain")
mode_piece mode.Greedy = name (codes ", also where less is offered") (codes "mode") (codes "greedy")

-- what the sink needs of a supply, if it accepts that at all, beside what it is offered
abbrev pub need_pieces : ℕ → Option ℕ → List PieceData
need_pieces ma None = member_null (codes "need_ma") ∷ flag [] (codes "above its greatest voltage") (codes "enough") false ∷ []
need_pieces ma (Some need) =
    number (codes "needs ") (codes "need_ma") Milliamperes need ∷ line_number (codes ", offered ") Milliamperes ma
    ∷ flag (codes ": enough") (codes ": too little") (codes "enough") (nat_le need ma) ∷ []

-- by which rule the sink chose
abbrev pub choice_piece : Bool → PieceData
choice_piece true =
    name (codes "  none is enough: it takes the greatest power, and of equal ones the lowest voltage") (codes "rule")
    (codes "greatest_power")
choice_piece false = name (codes "  of those that are enough it takes the highest voltage") (codes "rule") (codes "highest_voltage")

-- ---- what came of it

-- nobody acknowledged a message of this name; the object names its side first
abbrev pub unheard_pieces : List ℕ → List ℕ → List PieceData
unheard_pieces message side =
    name (codes ": nobody acknowledged ") (codes "fault") (codes "no_goodcrc") ∷ name [] (codes "side") side
    ∷ name message (codes "message") message ∷ line_words (codes " of ") ∷ line_words side ∷ []

-- a fault of a side, and one that its name alone tells
abbrev pub side_pieces : List ℕ → List ℕ → Side → List PieceData
side_pieces words text side = name words (codes "fault") text ∷ name (side_words side) (codes "side") (side_words side) ∷ []

abbrev pub bare_pieces : List ℕ → List ℕ → List PieceData
bare_pieces words text = name words (codes "fault") text ∷ []

-- what went wrong
abbrev pub fault_pieces : Fault → List PieceData
fault_pieces (fault.NoGoodCrc side message) = unheard_pieces (name_of message) (side_words side)
fault_pieces (fault.SoftReset side) = side_pieces (codes ": soft reset by ") (codes "soft_reset") side
fault_pieces (fault.HardReset side) = side_pieces (codes ": hard reset by ") (codes "hard_reset") side
fault_pieces fault.SourceDisabled = bare_pieces (codes ": the source gives up") (codes "source_disabled")
fault_pieces fault.SinkDisabled = bare_pieces (codes ": the sink gives up") (codes "sink_disabled")
fault_pieces fault.Reject = bare_pieces (codes ": Reject: the request isn't within the offer") (codes "reject")
fault_pieces fault.Wait = bare_pieces (codes ": Wait: so much power isn't free") (codes "wait")
fault_pieces fault.CableUnread = bare_pieces (codes ": the cable stays unread") (codes "cable_unread")
fault_pieces fault.Mismatch = bare_pieces (codes ": capability mismatch") (codes "mismatch")
fault_pieces (fault.Ignored id) =
    name [] (codes "fault") (codes "event_ignored") ∷ number (codes ": event ") (codes "id") Plain id
    ∷ line_words (codes " ignored") ∷ []

-- what became of the contract
abbrev pub change_pieces : ℕ → ContractChange → List PieceData
change_pieces at (change.Made c) =
    kind (codes "contract") ∷ number (codes "at ") (codes "at_us") Microseconds at ∷ contract_pieces (codes ": contract ") c
change_pieces at change.Lost =
    kind (codes "contract_lost") ∷ number (codes "at ") (codes "at_us") Microseconds at ∷ line_words (codes ": contract lost") ∷ []

-- ---- no offer, up to a time or at all

abbrev pub to_piece : Option ℕ → PieceData
to_piece None = member_null (codes "to_us")
to_piece (Some to) = number (codes " up to ") (codes "to_us") Microseconds to

-- why there is no offer
abbrev pub idle_pieces : State → List PieceData
idle_pieces state.Off = name (codes ": nothing is attached") (codes "source") (codes "SRC_Off") ∷ []
idle_pieces s = line_words (codes ": its source is in ") ∷ name (source_name s) (codes "source") (source_name s) ∷ []

-- ---- a fact

abbrev pub fact_pieces : Fact → List PieceData
fact_pieces (fact.Offer at port budget) =
    kind (codes "offer") ∷ number (codes "at ") (codes "at_us") Microseconds at ∷ number (codes ": port ") (codes "port") Plain port
    ∷ number (codes " makes an offer; the budget is ") (codes "budget_uw") Microwatts budget ∷ []
fact_pieces (fact.Hold port hold m) =
    kind (codes "hold") ∷ number (codes "  port ") (codes "port") Plain port
    ∷ number (codes " holds ") (codes "hold_uw") Microwatts hold ∷ maker_pieces m
fact_pieces (fact.Free port free floor) =
    kind (codes "free") ∷ number (codes "  free to port ") (codes "port") Plain port ∷ number (codes ": ") (codes "free_uw") Microwatts free
    ∷ number (codes "; never less than its floor, ") (codes "floor_uw") Microwatts floor ∷ []
fact_pieces (fact.Cable limit how tries) =
    kind (codes "cable") ∷ number (codes "  cable ") (codes "cable_ma") Milliamperes limit ∷ known_piece how ∷ tries_piece how tries ∷ []
fact_pieces (fact.Supply position b) =
    kind (codes "supply") ∷ number (codes "  supply ") (codes "position") Plain position
    ∷ number (codes " ") (codes "voltage_mv") Millivolts b.mv
    ∷ number (codes ": configured ") (codes "configured_ma") Milliamperes b.configured_ma
    ∷ number (codes ", cable ") (codes "cable_ma") Milliamperes b.cable_ma
    ∷ number (codes ", free ") (codes "free_ma") Milliamperes b.free_ma
    ∷ number (codes "; offered ") (codes "current_ma") Milliamperes b.offered_ma
    ∷ names (codes "set_by") (bound_names b) ∷ []
fact_pieces (fact.Request at position ma mismatch) =
    kind (codes "sink_request") ∷ number (codes "at ") (codes "at_us") Microseconds at
    ∷ number (codes ": the sink requests supply ") (codes "position") Plain position
    ∷ number (codes " at ") (codes "current_ma") Milliamperes ma
    ∷ flag (codes ", with a capability mismatch") [] (codes "capability_mismatch") mismatch ∷ []
fact_pieces (fact.Demand mw max_mv m) =
    kind (codes "demand") ∷ line_number (codes "  it wants ") Microwatts (mw * 1000) ∷ member_number (codes "demand_mw") mw
    ∷ number (codes " at up to ") (codes "max_mv") Millivolts max_mv ∷ mode_piece m ∷ []
fact_pieces (fact.Need position mv ma need) =
    kind (codes "need") ∷ number (codes "  supply ") (codes "position") Plain position
    ∷ number (codes " ") (codes "voltage_mv") Millivolts mv ∷ line_words (codes ": ") ∷ member_number (codes "current_ma") ma
    ∷ need_pieces ma need
fact_pieces (fact.Choice mismatch) = kind (codes "choice") ∷ choice_piece mismatch ∷ []
fact_pieces (fact.Fits at power fits free) =
    kind (codes "request") ∷ number (codes "at ") (codes "at_us") Microseconds at
    ∷ number (codes ": the request takes ") (codes "power_uw") Microwatts power ∷ number (codes ", free ") (codes "free_uw") Microwatts free
    ∷ flag (codes ": granted") (codes ": refused") (codes "granted") fits ∷ []
fact_pieces (fact.Wrong at f) = kind (codes "fault") ∷ number (codes "at ") (codes "at_us") Microseconds at ∷ fault_pieces f
fact_pieces (fact.Contract at c) = change_pieces at c
fact_pieces (fact.Detached at) =
    kind (codes "detach") ∷ number (codes "at ") (codes "at_us") Microseconds at ∷ line_words (codes ": the cable is pulled out") ∷ []
fact_pieces (fact.NoOffer port to s) =
    kind (codes "no_offer") ∷ number (codes "port ") (codes "port") Plain port ∷ line_words (codes " makes no offer") ∷ to_piece to
    ∷ idle_pieces s

-- the line of a fact
abbrev pub fact_line : Form → Fact → List ℕ
fact_line form f = line_of form (fact_pieces f)

-- the lines of facts
unfoldable pub fact_lines : Form → List Fact → List ℕ
fact_lines form facts = flat_map (fact_line form) facts
