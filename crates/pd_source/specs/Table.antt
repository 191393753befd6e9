-- The source's state table (the states of USB Power Delivery 3.0, section 8.3.3.2, PE_SRC_; the rows are this product's
-- profile). Its timers are the SourceCapabilityTimer (tTypeCSendSourceCap), the SenderResponseTimer (tSenderResponse), the
-- VDMResponseTimer (tVDMSenderResponse), the DiscoverIdentityTimer (tDiscoverIdentity), the PSHardResetTimer (tPSHardReset)
-- and those that run for tSrcTransition and tSrcRecover. By the profile, the Delay is the time that the source takes to
-- respond, TurnOn and Settling are the times in which its supply is switched on and settles, and OfferPoll is how often it
-- looks for another offer. Its counters are the CapsCounter (nCapsCount), the DiscoverIdentityCounter
-- (nDiscoverIdentityCount, here the port's own number of tries) and the HardResetCounter (nHardResetCount).
use Rattle.std.specs.Prelude.{ℕ, Bool, true, false, ◌==◌, ◌&&◌, not, nat_eq, nat_lt, nat_le, if◌then◌else◌, List, [], ◌∷◌, ◌++◌}
use Rattle.std.specs.Prelude.{Option, Some, None, is_some}
use Rattle.std.specs.List.{list_any}
use Rattle.std.specs.Cmp.Lexicographic.{pointwise}
use Rattle.pd_timers.specs.declared.Timer.{Timer}
use Rattle.pd_timers.specs.declared.Timer.TheVariants as timer
use Rattle.pd_timers.specs.Timers.{place}
use Rattle.pd_timers.specs.Table as tables
pub use Rattle.pd_timers.specs.Table.{row}
use Rattle.pd_timers.specs.Table.{is_among, without, first_row}
use Rattle.pd_objects.specs.declared.query.Answer.{Answer}
use Rattle.pd_objects.specs.declared.query.Answer.TheVariants as answer
use Rattle.pd_identity.specs.declared.identity.Reply.{Reply}
use Rattle.pd_identity.specs.declared.identity.Reply.TheVariants as reply
use Rattle.pd_identity.specs.Identity.{reply_of}
use Rattle.pd_source.specs.declared.kinds.State.{State}
use Rattle.pd_source.specs.declared.kinds.State.TheVariants as state
use Rattle.pd_source.specs.declared.kinds.Sent.{Sent as SentMessage}
use Rattle.pd_source.specs.declared.kinds.Sent.TheVariants as sent
use Rattle.pd_source.specs.declared.kinds.Stimulus.{Stimulus}
use Rattle.pd_source.specs.declared.kinds.Stimulus.TheVariants as stimulus
use Rattle.pd_source.specs.declared.kinds.Heard.{Heard}
use Rattle.pd_source.specs.declared.kinds.Heard.TheVariants as heard
use Rattle.pd_source.specs.declared.kinds.Message.TheVariants as message
use Rattle.pd_source.specs.declared.kinds.Note.TheVariants as note
use Rattle.pd_source.specs.declared.kinds.Deed.{Deed}
use Rattle.pd_source.specs.declared.kinds.Deed.TheVariants as deed
use Rattle.pd_source.specs.Record.{SourceSettings, SourceRecord}
use Rattle.pd_source.specs.Request.{is_valid}

-- the states, and the place of each in their list, which tells it from the others
abbrev pub all_states : List State
all_states =
    state.Off
    ∷ state.Startup
    ∷ state.VdmIdentityRequest
    ∷ state.SendCapabilities
    ∷ state.Discovery
    ∷ state.NegotiateCapability
    ∷ state.CapabilityResponse
    ∷ state.TransitionSupply
    ∷ state.Ready
    ∷ state.WaitNewCapabilities
    ∷ state.GetSinkCap
    ∷ state.SendSoftReset
    ∷ state.SoftReset
    ∷ state.HardReset
    ∷ state.HardResetReceived
    ∷ state.TransitionToDefault
    ∷ state.Disabled
    ∷ []

abbrev pub state_place : State → ℕ
state_place state.Off = 0
state_place state.Startup = 1
state_place state.VdmIdentityRequest = 2
state_place state.SendCapabilities = 3
state_place state.Discovery = 4
state_place state.NegotiateCapability = 5
state_place state.CapabilityResponse = 6
state_place state.TransitionSupply = 7
state_place state.Ready = 8
state_place state.WaitNewCapabilities = 9
state_place state.GetSinkCap = 10
state_place state.SendSoftReset = 11
state_place state.SoftReset = 12
state_place state.HardReset = 13
state_place state.HardResetReceived = 14
state_place state.TransitionToDefault = 15
state_place state.Disabled = 16

abbrev pub among : State → List State → Bool
among s states = is_among state_place s states

-- all states but these
abbrev pub all_but : List State → List State
all_but excluded = without state_place all_states excluded

-- the states of rows 10 to 43, in which a Soft_Reset is obeyed
abbrev pub soft_reset_states : List State
soft_reset_states =
    state.SendCapabilities
    ∷ state.Discovery
    ∷ state.NegotiateCapability
    ∷ state.CapabilityResponse
    ∷ state.TransitionSupply
    ∷ state.Ready
    ∷ state.WaitNewCapabilities
    ∷ state.GetSinkCap
    ∷ state.SendSoftReset
    ∷ state.SoftReset
    ∷ []

abbrev pub heard_reply : Reply → Heard
heard_reply reply.Ack = heard.Ack
heard_reply reply.Nak = heard.Nak
heard_reply reply.Busy = heard.Busy

-- What a stimulus counts as. A plug's answer to Discover Identity is ACK, NAK or BUSY by its objects.
abbrev pub heard_of : Stimulus → Heard
heard_of stimulus.Attach = heard.Attach
heard_of (stimulus.Ended t) = heard.Ended t
heard_of (stimulus.Sent m) = heard.Sent m
heard_of stimulus.Failed = heard.Failed
heard_of (stimulus.Identity objects) = heard_reply (reply_of objects.items)
heard_of (stimulus.Request object revision) = heard.Request
heard_of stimulus.GetSourceCap = heard.GetSourceCap
heard_of stimulus.SinkCapabilities = heard.SinkCapabilities
heard_of stimulus.Accept = heard.Accept
heard_of stimulus.SoftReset = heard.SoftReset
heard_of stimulus.HardReset = heard.HardReset
heard_of stimulus.GetSink = heard.GetSink
heard_of stimulus.Shed = heard.Shed
heard_of stimulus.Other = heard.Other

-- what stands in the column of stimuli
pub data Cue : Type 0 where
  Attach : Cue
  Ended : (t : Timer) → Cue
  Sent : Cue
  SentOf : (m : SentMessage) → Cue
  Failed : Cue
  Ack : Cue
  Nak : Cue
  Busy : Cue
  Request : Cue
  GetSourceCap : Cue
  SinkCapabilities : Cue
  Accept : Cue
  SoftReset : Cue
  HardReset : Cue
  GetSink : Cue
  Shed : Cue
  AnythingElse : Cue

abbrev pub sent_place : SentMessage → ℕ
sent_place sent.Accept = 0
sent_place sent.PsRdy = 1
sent_place sent.Other = 2

abbrev pub matches : Cue → Heard → Bool
matches Attach heard.Attach = true
matches (Ended t) (heard.Ended u) = place t == place u
matches Sent (heard.Sent m) = true
matches (SentOf m) (heard.Sent n) = sent_place m == sent_place n
matches Failed heard.Failed = true
matches Ack heard.Ack = true
matches Nak heard.Nak = true
matches Busy heard.Busy = true
matches Request heard.Request = true
matches GetSourceCap heard.GetSourceCap = true
matches SinkCapabilities heard.SinkCapabilities = true
matches Accept heard.Accept = true
matches SoftReset heard.SoftReset = true
matches HardReset heard.HardReset = true
matches GetSink heard.GetSink = true
matches Shed heard.Shed = true
matches AnythingElse h = true
matches _ _ = false

abbrev pub match_one : Heard → List Cue → Bool
match_one h cues = list_any (λ c. matches c h) cues

-- how often Source_Capabilities is sent again to a sink that answers nothing (nCapsCount, USB Power Delivery 3.0, section 6.7)
abbrev pub n_caps_count : ℕ
n_caps_count = 50

-- how often Hard Reset is sent again before the source gives up (nHardResetCount)
abbrev pub n_hard_reset_count : ℕ
n_hard_reset_count = 2

-- what stands in brackets; HardResetsLeft is asked by HR alone
pub data Guard : Type 0 where
  Always : Guard
  LimitKnown : Guard
  TriesLeft : Guard
  WasSent : Guard
  HasContract : Guard
  CapsLeft : Guard
  RequestInvalid : Guard
  Fits : Guard
  OfferDiffers : Guard
  HardResetsLeft : Guard

-- whether the kept request is valid in the delivered offer
abbrev pub is_request_valid : SourceRecord → Bool
is_request_valid r = is_kept_valid r.kept_request where
  is_kept_valid : Option ℕ → Bool
  is_kept_valid None = false
  is_kept_valid (Some object) = is_valid r.delivered_offer object

-- whether the answer is that the request fits
abbrev pub says_fits : Option Answer → Bool
says_fits (Some (answer.Fits fits)) = fits
says_fits _ = false

-- whether the answer is another offer than this one
abbrev pub differs_from : List ℕ → Option Answer → Bool
differs_from offer (Some (answer.Offer currents)) = not (pointwise nat_eq currents.items offer)
differs_from offer _ = false

-- whether a guard holds of what the engine keeps, and of the answer that it was given
abbrev pub holds : SourceSettings → Option Answer → SourceRecord → Guard → Bool
holds s a r Always = true
holds s a r LimitKnown = is_some r.limit
holds s a r TriesLeft = nat_lt r.discover_identity_counter s.identity_tries
holds s a r WasSent = r.sent
holds s a r HasContract = is_some r.contract
holds s a r CapsLeft = nat_le r.caps_counter n_caps_count
holds s a r RequestInvalid = not (is_request_valid r)
holds s a r Fits = says_fits a
holds s a r OfferDiffers = differs_from r.delivered_offer a
holds s a r HardResetsLeft = nat_le r.hard_reset_counter n_hard_reset_count

-- what stands in the column of next states; Same enters the same state once more
pub data Next : Type 0 where
  Stay : Next
  Same : Next
  To : (s : State) → Next
  SC : Next
  NC : Next
  SR : Next
  HR : Next

abbrev pub Row : Type 0
Row = tables.Row State Cue Guard Next Deed

abbrev pub table : List Row
table =
    -- Off
    row 1 (state.Off ∷ []) (Attach ∷ []) Always (To state.Startup) (deed.Start timer.TurnOn ∷ [])
    -- PE_SRC_Startup
    ∷ row 2 (state.Startup ∷ []) (Ended timer.TurnOn ∷ []) LimitKnown SC (deed.On ∷ [])
    ∷ row 3 (state.Startup ∷ []) (Ended timer.TurnOn ∷ []) Always (To state.VdmIdentityRequest) (deed.On ∷ deed.DiscoverIdentityCounterUp ∷ deed.Send message.DiscoverIdentity ∷ [])
    -- PE_SRC_VDM_Identity_Request
    ∷ row 4 (state.VdmIdentityRequest ∷ []) (Sent ∷ []) Always Stay (deed.Start timer.VdmResponse ∷ [])
    ∷ row 5 (state.VdmIdentityRequest ∷ []) (Ack ∷ []) Always SC (deed.LimitFromAnswer ∷ [])
    ∷ row 6 (state.VdmIdentityRequest ∷ []) (Nak ∷ []) Always NC []
    ∷ row 7 (state.VdmIdentityRequest ∷ []) (Busy ∷ Failed ∷ Ended timer.VdmResponse ∷ []) TriesLeft (To state.VdmIdentityRequest) (deed.Start timer.DiscoverIdentity ∷ [])
    ∷ row 8 (state.VdmIdentityRequest ∷ []) (Busy ∷ Failed ∷ Ended timer.VdmResponse ∷ []) Always NC []
    ∷ row 9 (state.VdmIdentityRequest ∷ []) (Ended timer.DiscoverIdentity ∷ []) Always (To state.VdmIdentityRequest) (deed.DiscoverIdentityCounterUp ∷ deed.Send message.DiscoverIdentity ∷ [])
    -- PE_SRC_Send_Capabilities
    ∷ row 10 (state.SendCapabilities ∷ []) (Sent ∷ []) Always Stay (deed.CapsCounterZero ∷ deed.Settle ∷ deed.Start timer.SenderResponse ∷ [])
    ∷ row 11 (state.SendCapabilities ∷ []) (Request ∷ []) WasSent (To state.NegotiateCapability) (deed.KeepRequest ∷ deed.Start timer.Delay ∷ [])
    ∷ row 12 (state.SendCapabilities ∷ []) (Failed ∷ []) HasContract SR []
    ∷ row 13 (state.SendCapabilities ∷ []) (Failed ∷ []) Always (To state.Discovery) (deed.Close ∷ deed.Start timer.SourceCapability ∷ [])
    ∷ row 14 (state.SendCapabilities ∷ []) (Ended timer.SenderResponse ∷ []) Always HR []
    -- PE_SRC_Discovery
    ∷ row 15 (state.Discovery ∷ []) (Ended timer.SourceCapability ∷ []) CapsLeft SC []
    ∷ row 16 (state.Discovery ∷ []) (Ended timer.SourceCapability ∷ []) Always (To state.Disabled) (deed.Note note.Disabled ∷ [])
    -- PE_SRC_Negotiate_Capability
    ∷ row 17 (state.NegotiateCapability ∷ []) (Ended timer.Delay ∷ []) RequestInvalid (To state.CapabilityResponse) (deed.Close ∷ deed.Note note.Reject ∷ deed.Send message.Reject ∷ [])
    ∷ row 18 (state.NegotiateCapability ∷ []) (Ended timer.Delay ∷ []) Fits (To state.TransitionSupply) (deed.Close ∷ deed.Take ∷ deed.Send message.Accept ∷ [])
    ∷ row 19 (state.NegotiateCapability ∷ []) (Ended timer.Delay ∷ []) Always (To state.CapabilityResponse) (deed.Close ∷ deed.Note note.Wait ∷ deed.Send message.Wait ∷ [])
    -- PE_SRC_Capability_Response
    ∷ row 20 (state.CapabilityResponse ∷ []) (Sent ∷ []) HasContract (To state.Ready) (deed.Start timer.OfferPoll ∷ [])
    ∷ row 21 (state.CapabilityResponse ∷ []) (Sent ∷ []) Always (To state.WaitNewCapabilities) (deed.Start timer.OfferPoll ∷ [])
    ∷ row 22 (state.CapabilityResponse ∷ []) (Failed ∷ []) Always SR []
    -- PE_SRC_Transition_Supply
    ∷ row 23 (state.TransitionSupply ∷ []) (SentOf sent.Accept ∷ []) Always Stay (deed.Start timer.SrcTransition ∷ [])
    ∷ row 24 (state.TransitionSupply ∷ []) (Ended timer.SrcTransition ∷ []) Always Stay (deed.Start timer.Settling ∷ [])
    ∷ row 25 (state.TransitionSupply ∷ []) (Ended timer.Settling ∷ []) Always Stay (deed.Send message.PsRdy ∷ [])
    ∷ row 26 (state.TransitionSupply ∷ []) (SentOf sent.PsRdy ∷ []) Always (To state.Ready) (deed.Commit ∷ deed.HardResetCounterZero ∷ deed.Start timer.OfferPoll ∷ [])
    ∷ row 27 (state.TransitionSupply ∷ []) (Failed ∷ []) Always HR []
    -- PE_SRC_Ready and PE_SRC_Wait_New_Capabilities
    ∷ row 28 (state.Ready ∷ state.WaitNewCapabilities ∷ []) (Ended timer.OfferPoll ∷ []) OfferDiffers SC []
    ∷ row 29 (state.Ready ∷ state.WaitNewCapabilities ∷ []) (Ended timer.OfferPoll ∷ []) Always Same (deed.Start timer.OfferPoll ∷ [])
    ∷ row 30 (state.Ready ∷ state.WaitNewCapabilities ∷ []) (GetSourceCap ∷ []) Always Stay (deed.Start timer.Delay ∷ [])
    ∷ row 31 (state.Ready ∷ state.WaitNewCapabilities ∷ []) (Ended timer.Delay ∷ []) Always SC []
    -- PE_SRC_Ready
    ∷ row 32 (state.Ready ∷ []) (Request ∷ []) Always (To state.NegotiateCapability) (deed.KeepRequest ∷ deed.Start timer.Delay ∷ [])
    ∷ row 33 (state.Ready ∷ []) (GetSink ∷ []) Always (To state.GetSinkCap) (deed.Send message.GetSinkCap ∷ [])
    -- PE_SRC_Get_Sink_Cap
    ∷ row 34 (state.GetSinkCap ∷ []) (Sent ∷ []) Always Stay (deed.Start timer.SenderResponse ∷ [])
    ∷ row 35 (state.GetSinkCap ∷ []) (SinkCapabilities ∷ Ended timer.SenderResponse ∷ []) Always (To state.Ready) (deed.Start timer.OfferPoll ∷ [])
    ∷ row 36 (state.GetSinkCap ∷ []) (Request ∷ []) Always (To state.NegotiateCapability) (deed.KeepRequest ∷ deed.Start timer.Delay ∷ [])
    ∷ row 37 (state.GetSinkCap ∷ []) (Failed ∷ []) Always SR []
    -- PE_SRC_Send_Soft_Reset
    ∷ row 38 (state.SendSoftReset ∷ []) (Sent ∷ []) Always Stay (deed.Start timer.SenderResponse ∷ [])
    ∷ row 39 (state.SendSoftReset ∷ []) (Accept ∷ []) WasSent SC []
    ∷ row 40 (state.SendSoftReset ∷ []) (Ended timer.SenderResponse ∷ Failed ∷ []) Always HR []
    -- PE_SRC_Soft_Reset
    ∷ row 41 (state.SoftReset ∷ []) (Ended timer.Delay ∷ []) Always Stay (deed.Send message.Accept ∷ [])
    ∷ row 42 (state.SoftReset ∷ []) (Sent ∷ []) Always SC []
    ∷ row 43 (state.SoftReset ∷ []) (Failed ∷ []) Always HR []
    -- PE_SRC_Hard_Reset
    ∷ row 44 (state.HardReset ∷ []) (Sent ∷ []) Always Stay (deed.Start timer.PsHardReset ∷ [])
    -- PE_SRC_Hard_Reset and PE_SRC_Hard_Reset_Received
    ∷ row 45 (state.HardReset ∷ state.HardResetReceived ∷ []) (Ended timer.PsHardReset ∷ []) Always (To state.TransitionToDefault) (deed.Off ∷ deed.Start timer.SrcRecover ∷ [])
    -- PE_SRC_Transition_to_default
    ∷ row 46 (state.TransitionToDefault ∷ []) (Ended timer.SrcRecover ∷ []) Always (To state.Startup) (deed.Start timer.TurnOn ∷ [])
    -- the states of rows 10 to 43
    ∷ row 47 soft_reset_states (SoftReset ∷ []) Always (To state.SoftReset) (deed.Close ∷ deed.Start timer.Delay ∷ [])
    -- all states but Off and PE_SRC_Disabled
    ∷ row 48 (all_but (state.Off ∷ state.Disabled ∷ [])) (HardReset ∷ []) Always (To state.HardResetReceived) (deed.Void ∷ deed.Start timer.PsHardReset ∷ [])
    ∷ row 49 (all_but (state.Off ∷ state.Disabled ∷ [])) (Shed ∷ []) Always HR []
    ∷ []

-- anything else, in each state: stay, no act
abbrev pub anything_else : Row
anything_else = row 0 all_states (AnythingElse ∷ []) Always Stay []

abbrev pub fits : (Guard → Bool) → State → Heard → Row → Bool
fits g s h r = (among s r.states && match_one h r.cues) && g r.guard

-- the first row that fits; where none does, anything else
abbrev pub first : (Guard → Bool) → State → Heard → List Row → Row
first g s h rows = first_row (fits g s h) anything_else rows

-- SC: enter Send_Capabilities; CapsCounter + 1; draft; send Source_Capabilities
abbrev pub sc : List Deed
sc = deed.Enter state.SendCapabilities ∷ deed.CapsCounterUp ∷ deed.Draft ∷ deed.Send message.SourceCapabilities ∷ []

-- NC: limit 3,000; note `cable unread`; SC
abbrev pub nc : List Deed
nc = deed.CableLimit ∷ deed.Note note.CableUnread ∷ sc

-- SR: enter Send_Soft_Reset; close; reset the SOP layer; note; send Soft_Reset
abbrev pub sr : List Deed
sr = deed.Enter state.SendSoftReset ∷ deed.Close ∷ deed.ResetLayer ∷ deed.Note note.SoftReset ∷ deed.Send message.SoftReset ∷ []

-- HR: where the HardResetCounter is at most nHardResetCount, enter Hard_Reset; HardResetCounter + 1; void; note; send
-- Hard Reset. Else enter Disabled; void; note.
abbrev pub hr : Bool → List Deed
hr resets_left =
    if resets_left
    then deed.Enter state.HardReset ∷ deed.HardResetCounterUp ∷ deed.Void ∷ deed.Note note.HardReset ∷ deed.SendHardReset ∷ []
    else deed.Enter state.Disabled ∷ deed.Void ∷ deed.Note note.Disabled ∷ []

-- What a row does, in order. Entering comes before the row's acts; SC, NC, SR and HR come after them.
abbrev pub deeds_of_row : (Guard → Bool) → Row → List Deed
deeds_of_row g r = with_next r.next r.deeds where
  with_next : Next → List Deed → List Deed
  with_next Stay ds = ds
  with_next Same ds = deed.EnterAgain ∷ ds
  with_next (To t) ds = deed.Enter t ∷ ds
  with_next SC ds = ds ++ sc
  with_next NC ds = ds ++ nc
  with_next SR ds = ds ++ sr
  with_next HR ds = ds ++ hr (g HardResetsLeft)

-- whether a row makes an offer
abbrev pub asks_offer : Next → Bool
asks_offer SC = true
asks_offer NC = true
asks_offer _ = false

-- the row for a state and a stimulus, where the guards are as told
unfoldable pub row_of : (Guard → Bool) → State → Heard → Row
row_of g s h = first g s h table
