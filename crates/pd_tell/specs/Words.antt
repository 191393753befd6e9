-- What a step of a port says, in words: this product's own, over the names of the standard.
use Rattle.std.specs.Prelude.{ℕ, ◌*◌, Bool, true, false, List, [], ◌∷◌, ◌++◌, Option, Some, None, codes, decimal}
use Rattle.std.specs.List.{flat_map}
use Rattle.pd_symbols.specs.Sets.{set_codes}
use Rattle.pd_symbols.specs.declared.channel.OrderedSet.TheVariants as ordered
use Rattle.pd_header.specs.declared.side.Side.{Side}
use Rattle.pd_header.specs.declared.side.Side.TheVariants.{Source, Sink, Plug}
use Rattle.pd_packet.specs.declared.fate.Fate.{Fate}
use Rattle.pd_packet.specs.declared.fate.Fate.TheVariants.{Undisturbed, Lost, Damaged}
use Rattle.pd_packet.specs.Contents.{Contents}
use Rattle.pd_packet.specs.Hearing.{shown}
use Rattle.pd_objects.specs.Supply.{SupplyData}
use Rattle.pd_objects.specs.declared.contract.Contract.{Contract}
use Rattle.pd_objects.specs.declared.query.Query.{Query}
use Rattle.pd_objects.specs.declared.query.Query.TheVariants as query
use Rattle.pd_objects.specs.declared.query.Answer.{Answer}
use Rattle.pd_objects.specs.declared.query.Answer.TheVariants as answer
use Rattle.pd_setup.specs.Events.{PortEventKind}
use Rattle.pd_setup.specs.declared.event.EventKind.TheVariants as kind
use Rattle.pd_setup.specs.declared.event.Happening.{Happening}
use Rattle.pd_setup.specs.declared.event.Happening.TheVariants.{Port, Budget}
use Rattle.pd_source.specs.declared.kinds.State as source
use Rattle.pd_source.specs.declared.kinds.State.TheVariants as source_state
use Rattle.pd_sink.specs.declared.kinds.State as sink
use Rattle.pd_sink.specs.declared.kinds.State.TheVariants as sink_state
use Rattle.pd_line.specs.declared.notes.Start.{Start}
use Rattle.pd_line.specs.declared.notes.Start.TheVariants as start
use Rattle.pd_device.specs.Text.{code_text}
use Rattle.pd_content.specs.Texts.{packet_text}
use Rattle.pd_tell.specs.Amounts.{amperes, volts, watts}

-- ---- what falls due

-- what happens to a port from outside, by the words of an edit script
abbrev pub kind_words : PortEventKind → List ℕ
kind_words (kind.Attach cable device) = codes "attach"
kind_words kind.Detach = codes "detach"
kind_words (kind.Demand mw) = codes "demand " ++ watts (mw * 1000)
kind_words kind.Lose = codes "lose"
kind_words (kind.Damage harm) = codes "damage"
kind_words kind.GetSource = codes "get_source"
kind_words kind.GetSink = codes "get_sink"

-- an event of the port with its id; a change of the budget that all ports share, with what it is from then on
abbrev pub event_words : Happening → ℕ → List ℕ
event_words (Port id kind) budget = codes "event " ++ (decimal id ++ (32 ∷ kind_words kind))
event_words Budget budget = codes "budget " ++ watts budget

-- ---- what is asked of the shared budget, and answered

-- a supply as it may be offered: its voltage, the current that is answered, and its own
abbrev pub supply_words : SupplyData → ℕ → List ℕ
supply_words s ma = codes " | " ++ (volts s.mv ++ (32 ∷ (amperes ma ++ (codes " of " ++ amperes s.ma))))

-- the supplies with the current that is answered for each
abbrev pub supplies_words : List SupplyData → List ℕ → List ℕ
supplies_words [] currents = []
supplies_words (s ∷ more) [] = []
supplies_words (s ∷ more) (ma ∷ others) = supply_words s ma ++ supplies_words more others

-- what is asked: the currents of an offer through a cable that carries so much, or whether a power may be held, or stay
abbrev pub question_words : Query → List ℕ
question_words (query.Offer supplies limit) = codes "offer, cable " ++ amperes limit
question_words (query.Fits power) = codes "asks for " ++ watts power
question_words (query.Keep power) = codes "asks to keep " ++ watts power

-- what is answered
abbrev pub reply_words : Query → Answer → List ℕ
reply_words (query.Offer supplies limit) (answer.Offer currents) = supplies_words supplies.items currents.items
reply_words q (answer.Fits true) = codes ": granted"
reply_words q (answer.Fits false) = codes ": refused"
reply_words q a = []

abbrev pub asked_words : Query → Option Answer → List ℕ
asked_words q None = question_words q
asked_words q (Some a) = question_words q ++ reply_words q a

-- ---- contracts and holds

-- a contract: the place of the supply in the offer, its voltage, and the maximum operating current
abbrev pub contract_words : Contract → List ℕ
contract_words c = codes "contract " ++ (decimal c.position ++ (32 ∷ (volts c.mv ++ (32 ∷ amperes c.ma))))

-- what the port holds of the budget before and after, in microwatts
abbrev pub hold_words : ℕ → ℕ → List ℕ
hold_words before after = codes "hold " ++ (watts before ++ (codes " to " ++ watts after))

-- ---- what starts on the line

abbrev pub side_words : Side → List ℕ
side_words Source = codes "src"
side_words Sink = codes "snk"
side_words Plug = codes "cbl"

-- what becomes of a packet that doesn't arrive
abbrev pub fate_words : Fate → List ℕ
fate_words Undisturbed = []
fate_words Lost = codes " lost"
fate_words (Damaged harm) = codes " damaged"

-- the event whose disturbance it is
abbrev pub by_words : Option ℕ → List ℕ
by_words None = []
by_words (Some id) = codes " by event " ++ decimal id

-- the codes, where they are wanted, as a transcript shows them
abbrev pub codes_words : Bool → List ℕ → List ℕ
codes_words true cs = codes " :" ++ flat_map code_text cs
codes_words false cs = []

-- a packet with its side, its content, what becomes of it, and the event that does it
abbrev pub packet_words : Bool → Option ℕ → Side → Contents → Fate → List ℕ
packet_words with_codes by side packet fate =
    side_words side ++ (32 ∷ (packet_text packet
    ++ (fate_words fate ++ (by_words by ++ codes_words with_codes (shown packet fate)))))

abbrev pub hard_reset_words : Bool → Side → List ℕ
hard_reset_words with_codes side = side_words side ++ (codes " Hard_Reset" ++ codes_words with_codes (set_codes ordered.HardReset))

abbrev pub start_words : Bool → Option ℕ → Start → List ℕ
start_words with_codes by (start.Packet side packet fate) = packet_words with_codes by side packet fate
start_words with_codes by (start.HardReset side) = hard_reset_words with_codes side

-- ---- the states, by the standard's names (USB Power Delivery 3.0, section 8.3.3); those of this product's profile begin otherwise

abbrev pub source_name : source.State → List ℕ
source_name source_state.Off = codes "SRC_Off"
source_name source_state.Startup = codes "PE_SRC_Startup"
source_name source_state.VdmIdentityRequest = codes "PE_SRC_VDM_Identity_Request"
source_name source_state.SendCapabilities = codes "PE_SRC_Send_Capabilities"
source_name source_state.Discovery = codes "PE_SRC_Discovery"
source_name source_state.NegotiateCapability = codes "PE_SRC_Negotiate_Capability"
source_name source_state.CapabilityResponse = codes "PE_SRC_Capability_Response"
source_name source_state.TransitionSupply = codes "PE_SRC_Transition_Supply"
source_name source_state.Ready = codes "PE_SRC_Ready"
source_name source_state.WaitNewCapabilities = codes "PE_SRC_Wait_New_Capabilities"
source_name source_state.GetSinkCap = codes "PE_SRC_Get_Sink_Cap"
source_name source_state.SendSoftReset = codes "PE_SRC_Send_Soft_Reset"
source_name source_state.SoftReset = codes "PE_SRC_Soft_Reset"
source_name source_state.HardReset = codes "PE_SRC_Hard_Reset"
source_name source_state.HardResetReceived = codes "PE_SRC_Hard_Reset_Received"
source_name source_state.TransitionToDefault = codes "PE_SRC_Transition_to_default"
source_name source_state.Disabled = codes "PE_SRC_Disabled"

abbrev pub sink_name : sink.State → List ℕ
sink_name sink_state.Off = codes "SNK_Off"
sink_name sink_state.Disabled = codes "SNK_Disabled"
sink_name sink_state.Discovery = codes "PE_SNK_Discovery"
sink_name sink_state.WaitForCapabilities = codes "PE_SNK_Wait_for_Capabilities"
sink_name sink_state.EvaluateCapability = codes "PE_SNK_Evaluate_Capability"
sink_name sink_state.SelectCapability = codes "PE_SNK_Select_Capability"
sink_name sink_state.TransitionSink = codes "PE_SNK_Transition_Sink"
sink_name sink_state.Ready = codes "PE_SNK_Ready"
sink_name sink_state.GiveSinkCap = codes "PE_SNK_Give_Sink_Cap"
sink_name sink_state.GetSourceCap = codes "PE_SNK_Get_Source_Cap"
sink_name sink_state.SendSoftReset = codes "PE_SNK_Send_Soft_Reset"
sink_name sink_state.SoftReset = codes "PE_SNK_Soft_Reset"
sink_name sink_state.HardReset = codes "PE_SNK_Hard_Reset"
sink_name sink_state.TransitionToDefault = codes "PE_SNK_Transition_to_default"

-- the states that the source and the sink are in
abbrev pub state_words : source.State → sink.State → List ℕ
state_words s k = codes "state " ++ (source_name s ++ (32 ∷ sink_name k))
