-- The sink's state table (the states of USB Power Delivery 3.0, section 8.3.3.3, PE_SNK_; the rows are this product's
-- profile). Its timers are the SinkWaitCapTimer (tTypeCSinkWaitCap), the SenderResponseTimer (tSenderResponse), the
-- PSTransitionTimer (tPSTransition) and the SinkRequestTimer (tSinkRequest); the Delay is the time that the sink takes to
-- respond, by the profile. Its counter is the HardResetCounter (nHardResetCount).
use Rattle.std.specs.Prelude.{ℕ, Bool, true, false, not, nat_le, ◌==◌, ◌&&◌, if◌then◌else◌, List, [], ◌∷◌, ◌++◌, Option, Some, None}
use Rattle.std.specs.List.{list_any}
use Rattle.pd_timers.specs.declared.Timer.{Timer}
use Rattle.pd_timers.specs.declared.Timer.TheVariants as timer
use Rattle.pd_timers.specs.declared.sink_deadlines.SinkTimer.TheVariants as sink_timer
use Rattle.pd_timers.specs.Timers.{place}
use Rattle.pd_timers.specs.Table as tables
pub use Rattle.pd_timers.specs.Table.{row}
use Rattle.pd_timers.specs.Table.{is_among, without, first_row}
use Rattle.pd_setup.specs.declared.sink.SinkMode.{SinkMode}
use Rattle.pd_setup.specs.declared.sink.SinkMode.TheVariants as mode
use Rattle.pd_sink.specs.declared.kinds.State.{State}
use Rattle.pd_sink.specs.declared.kinds.State.TheVariants as state
use Rattle.pd_sink.specs.declared.kinds.Stimulus.{Stimulus}
use Rattle.pd_sink.specs.declared.kinds.Stimulus.TheVariants as stimulus
use Rattle.pd_sink.specs.declared.kinds.Message.TheVariants as message
use Rattle.pd_sink.specs.declared.kinds.Note.TheVariants as note
use Rattle.pd_sink.specs.declared.kinds.Deed.{Deed}
use Rattle.pd_sink.specs.declared.kinds.Deed.TheVariants as deed
use Rattle.pd_setup.specs.Sinks.{SinkData}
use Rattle.pd_sink.specs.Record.{SinkRecord}

-- the states, and the place of each in their list, which tells it from the others
abbrev pub all_states : List State
all_states =
    state.Off
    ∷ state.Disabled
    ∷ state.Discovery
    ∷ state.WaitForCapabilities
    ∷ state.EvaluateCapability
    ∷ state.SelectCapability
    ∷ state.TransitionSink
    ∷ state.Ready
    ∷ state.GiveSinkCap
    ∷ state.GetSourceCap
    ∷ state.SendSoftReset
    ∷ state.SoftReset
    ∷ state.HardReset
    ∷ state.TransitionToDefault
    ∷ []

abbrev pub state_place : State → ℕ
state_place state.Off = 0
state_place state.Disabled = 1
state_place state.Discovery = 2
state_place state.WaitForCapabilities = 3
state_place state.EvaluateCapability = 4
state_place state.SelectCapability = 5
state_place state.TransitionSink = 6
state_place state.Ready = 7
state_place state.GiveSinkCap = 8
state_place state.GetSourceCap = 9
state_place state.SendSoftReset = 10
state_place state.SoftReset = 11
state_place state.HardReset = 12
state_place state.TransitionToDefault = 13

abbrev pub among : State → List State → Bool
among s states = is_among state_place s states

-- all states but these
abbrev pub all_but : List State → List State
all_but excluded = without state_place all_states excluded

-- the states of rows 4 to 30, in which a Soft_Reset is obeyed
abbrev pub soft_reset_states : List State
soft_reset_states =
    state.WaitForCapabilities
    ∷ state.EvaluateCapability
    ∷ state.SelectCapability
    ∷ state.TransitionSink
    ∷ state.Ready
    ∷ state.GiveSinkCap
    ∷ state.GetSourceCap
    ∷ state.SendSoftReset
    ∷ state.SoftReset
    ∷ []

-- what stands in the column of stimuli
pub data Cue : Type 0 where
  Attach : Cue
  Vbus : Cue
  Ended : (t : Timer) → Cue
  SourceCapabilities : Cue
  Accept : Cue
  Reject : Cue
  Wait : Cue
  PsRdy : Cue
  GetSinkCap : Cue
  SoftReset : Cue
  HardReset : Cue
  Sent : Cue
  Failed : Cue
  Demand : Cue
  GetSource : Cue
  AnythingElse : Cue

abbrev pub matches : Cue → Stimulus → Bool
matches Attach (stimulus.Attach sink) = true
matches Vbus stimulus.Vbus = true
matches (Ended t) (stimulus.Ended u) = place t == place u
matches SourceCapabilities (stimulus.SourceCapabilities objects) = true
matches Accept stimulus.Accept = true
matches Reject stimulus.Reject = true
matches Wait stimulus.Wait = true
matches PsRdy stimulus.PsRdy = true
matches GetSinkCap stimulus.GetSinkCap = true
matches SoftReset stimulus.SoftReset = true
matches HardReset stimulus.HardReset = true
matches Sent stimulus.Sent = true
matches Failed stimulus.Failed = true
matches Demand (stimulus.Demand mw) = true
matches GetSource stimulus.GetSource = true
matches AnythingElse x = true
matches _ _ = false

abbrev pub match_one : Stimulus → List Cue → Bool
match_one x cues = list_any (λ c. matches c x) cues

-- how often Hard Reset is sent again before the sink gives up (nHardResetCount, USB Power Delivery 3.0, section 6.7)
abbrev pub n_hard_reset_count : ℕ
n_hard_reset_count = 2

-- what stands in brackets; HardResetsLeft is asked by HR alone
pub data Guard : Type 0 where
  Always : Guard
  Plain : Guard
  NoContract : Guard
  WasSent : Guard
  HardResetsLeft : Guard

-- whether a sink is attached that doesn't speak USB Power Delivery
abbrev pub is_plain : Option SinkData → Bool
is_plain None = false
is_plain (Some sink) = plain sink.mode where
  plain : SinkMode → Bool
  plain mode.Plain = true
  plain _ = false

-- whether a guard holds of what the engine keeps
abbrev pub holds : SinkRecord → Guard → Bool
holds r Always = true
holds r Plain = is_plain r.sink
holds r NoContract = not r.has_contract
holds r WasSent = r.sent
holds r HardResetsLeft = nat_le r.hard_reset_counter n_hard_reset_count

-- what stands in the column of next states
pub data Next : Type 0 where
  Stay : Next
  To : (s : State) → Next
  RQ : Next
  RD : Next
  SR : Next
  HR : Next

abbrev pub Row : Type 0
Row = tables.Row State Cue Guard Next Deed

abbrev pub table : List Row
table =
    -- Off
    row 1 (state.Off ∷ []) (Attach ∷ []) Plain (To state.Disabled) []
    ∷ row 2 (state.Off ∷ []) (Attach ∷ []) Always (To state.Discovery) []
    -- PE_SNK_Discovery and PE_SNK_Transition_to_default
    ∷ row 3 (state.Discovery ∷ state.TransitionToDefault ∷ []) (Vbus ∷ []) Always (To state.WaitForCapabilities) (deed.Start sink_timer.SinkWaitCap ∷ [])
    -- the states in which an offer is evaluated
    ∷ row 4 (state.WaitForCapabilities ∷ state.EvaluateCapability ∷ state.SelectCapability ∷ state.Ready ∷ state.GiveSinkCap ∷ state.GetSourceCap ∷ []) (SourceCapabilities ∷ []) Always (To state.EvaluateCapability) (deed.KeepOffer ∷ deed.Start sink_timer.Delay ∷ [])
    -- PE_SNK_Wait_for_Capabilities
    ∷ row 5 (state.WaitForCapabilities ∷ []) (Ended timer.SinkWaitCap ∷ []) Always HR []
    -- PE_SNK_Evaluate_Capability
    ∷ row 6 (state.EvaluateCapability ∷ []) (Ended timer.Delay ∷ []) Always RQ []
    -- PE_SNK_Select_Capability
    ∷ row 7 (state.SelectCapability ∷ []) (Sent ∷ []) Always Stay (deed.Start sink_timer.SenderResponse ∷ [])
    ∷ row 8 (state.SelectCapability ∷ []) (Accept ∷ []) Always (To state.TransitionSink) (deed.Start sink_timer.PsTransition ∷ [])
    ∷ row 9 (state.SelectCapability ∷ []) (Wait ∷ Reject ∷ []) NoContract (To state.WaitForCapabilities) (deed.Start sink_timer.SinkWaitCap ∷ [])
    ∷ row 10 (state.SelectCapability ∷ []) (Wait ∷ []) Always RD (deed.Again true ∷ [])
    ∷ row 11 (state.SelectCapability ∷ []) (Reject ∷ []) Always RD []
    ∷ row 12 (state.SelectCapability ∷ []) (Ended timer.SenderResponse ∷ []) Always HR []
    ∷ row 13 (state.SelectCapability ∷ []) (Failed ∷ []) Always SR []
    -- PE_SNK_Transition_Sink
    ∷ row 14 (state.TransitionSink ∷ []) (PsRdy ∷ []) Always RD (deed.Contract true ∷ deed.HardResetCounterZero ∷ [])
    ∷ row 15 (state.TransitionSink ∷ []) (Ended timer.PsTransition ∷ []) Always HR []
    -- PE_SNK_Ready
    ∷ row 16 (state.Ready ∷ []) (Ended timer.Delay ∷ Ended timer.SinkRequest ∷ []) Always RQ []
    ∷ row 17 (state.Ready ∷ []) (Demand ∷ []) Always Stay (deed.Fresh true ∷ deed.Start sink_timer.Delay ∷ [])
    ∷ row 18 (state.Ready ∷ []) (GetSinkCap ∷ []) Always (To state.GiveSinkCap) (deed.Start sink_timer.Delay ∷ [])
    ∷ row 19 (state.Ready ∷ []) (GetSource ∷ []) Always (To state.GetSourceCap) (deed.Send message.GetSourceCap ∷ [])
    -- PE_SNK_Give_Sink_Cap
    ∷ row 20 (state.GiveSinkCap ∷ []) (Ended timer.Delay ∷ []) Always Stay (deed.Send message.SinkCapabilities ∷ [])
    ∷ row 21 (state.GiveSinkCap ∷ []) (Sent ∷ []) Always RD []
    -- PE_SNK_Get_Source_Cap
    ∷ row 22 (state.GetSourceCap ∷ []) (Sent ∷ []) Always Stay (deed.Start sink_timer.SenderResponse ∷ [])
    ∷ row 23 (state.GetSourceCap ∷ []) (Ended timer.SenderResponse ∷ []) Always RD []
    -- PE_SNK_Give_Sink_Cap and PE_SNK_Get_Source_Cap
    ∷ row 24 (state.GiveSinkCap ∷ state.GetSourceCap ∷ []) (Failed ∷ []) Always SR []
    -- PE_SNK_Send_Soft_Reset
    ∷ row 25 (state.SendSoftReset ∷ []) (Sent ∷ []) Always Stay (deed.Start sink_timer.SenderResponse ∷ [])
    ∷ row 26 (state.SendSoftReset ∷ []) (Accept ∷ []) WasSent (To state.WaitForCapabilities) (deed.Start sink_timer.SinkWaitCap ∷ [])
    ∷ row 27 (state.SendSoftReset ∷ []) (Ended timer.SenderResponse ∷ Failed ∷ []) Always HR []
    -- PE_SNK_Soft_Reset
    ∷ row 28 (state.SoftReset ∷ []) (Ended timer.Delay ∷ []) Always Stay (deed.Send message.Accept ∷ [])
    ∷ row 29 (state.SoftReset ∷ []) (Sent ∷ []) Always (To state.WaitForCapabilities) (deed.Start sink_timer.SinkWaitCap ∷ [])
    ∷ row 30 (state.SoftReset ∷ []) (Failed ∷ []) Always HR []
    -- PE_SNK_Hard_Reset
    ∷ row 31 (state.HardReset ∷ []) (Sent ∷ []) Always (To state.TransitionToDefault) []
    -- all states but PE_SNK_Ready
    ∷ row 32 (all_but (state.Ready ∷ [])) (Demand ∷ []) Always Stay (deed.Fresh true ∷ [])
    -- the states of rows 4 to 30
    ∷ row 33 soft_reset_states (SoftReset ∷ []) Always (To state.SoftReset) (deed.Start sink_timer.Delay ∷ [])
    -- all states but Off and Disabled
    ∷ row 34 (all_but (state.Off ∷ state.Disabled ∷ [])) (HardReset ∷ []) Always (To state.TransitionToDefault) (deed.Contract false ∷ deed.Fresh false ∷ deed.Again false ∷ [])
    ∷ []

-- anything else, in each state: stay, no act
abbrev pub anything_else : Row
anything_else = row 0 all_states (AnythingElse ∷ []) Always Stay []

abbrev pub fits : (Guard → Bool) → State → Stimulus → Row → Bool
fits g s x r = (among s r.states && match_one x r.cues) && g r.guard

-- the first row that fits; where none does, anything else
abbrev pub first : (Guard → Bool) → State → Stimulus → List Row → Row
first g s x rows = first_row (fits g s x) anything_else rows

-- RQ: enter Select_Capability; fresh no; again no; note `mismatch` where that bit is set; send Request from the kept offer
abbrev pub rq : List Deed
rq = deed.Enter state.SelectCapability ∷ deed.Fresh false ∷ deed.Again false ∷ deed.NoteMismatch ∷ deed.Send message.Request ∷ []

-- RD: enter Ready; start SinkRequest where again; start Delay where fresh
abbrev pub rd : List Deed
rd = deed.Enter state.Ready ∷ deed.StartWhereAgain sink_timer.SinkRequest ∷ deed.StartWhereFresh sink_timer.Delay ∷ []

-- SR: enter Send_Soft_Reset; reset the SOP layer; note; send Soft_Reset
abbrev pub sr : List Deed
sr = deed.Enter state.SendSoftReset ∷ deed.ResetLayer ∷ deed.Note note.SoftReset ∷ deed.Send message.SoftReset ∷ []

-- HR: where the HardResetCounter is at most nHardResetCount, enter Hard_Reset; HardResetCounter + 1; contract no; note;
-- send Hard Reset. Else enter Disabled; contract no; note.
abbrev pub hr : Bool → List Deed
hr resets_left =
    if resets_left
    then deed.Enter state.HardReset ∷ deed.HardResetCounterUp ∷ deed.Contract false ∷ deed.Note note.HardReset ∷ deed.SendHardReset ∷ []
    else deed.Enter state.Disabled ∷ deed.Contract false ∷ deed.Note note.Disabled ∷ []

-- What a row does, in order. Entering comes before the row's acts; RQ, RD, SR and HR come after them.
abbrev pub deeds_of_row : (Guard → Bool) → Row → List Deed
deeds_of_row g r = with_next r.next r.deeds where
  with_next : Next → List Deed → List Deed
  with_next Stay ds = ds
  with_next (To t) ds = deed.Enter t ∷ ds
  with_next RQ ds = ds ++ rq
  with_next RD ds = ds ++ rd
  with_next SR ds = ds ++ sr
  with_next HR ds = ds ++ hr (g HardResetsLeft)

-- the row for a state and a stimulus, where the guards are as told
unfoldable pub row_of : (Guard → Bool) → State → Stimulus → Row
row_of g s x = first g s x table
