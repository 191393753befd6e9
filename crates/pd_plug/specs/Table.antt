-- The plug's state table (the states of USB Power Delivery 3.0, section 8.3.3, PE_CBL_; the rows are this product's profile).
-- The Delay is the time that the plug takes to respond, by the profile.
use Rattle.std.specs.Prelude.{ℕ, Bool, true, false, ◌==◌, ◌&&◌, List, [], ◌∷◌, Option, Some, None}
use Rattle.std.specs.List.{list_any}
use Rattle.pd_timers.specs.declared.Timer.{Timer}
use Rattle.pd_timers.specs.declared.Timer.TheVariants as timer
use Rattle.pd_timers.specs.Timers.{place}
use Rattle.pd_timers.specs.Table as tables
pub use Rattle.pd_timers.specs.Table.{row}
use Rattle.pd_timers.specs.Table.{is_among, without, first_row}
use Rattle.pd_identity.specs.declared.Cable.{Cable}
use Rattle.pd_identity.specs.declared.CablePlug.{CablePlug}
use Rattle.pd_identity.specs.declared.CablePlug.TheVariants as plug
use Rattle.pd_plug.specs.declared.kinds.State.{State}
use Rattle.pd_plug.specs.declared.kinds.State.TheVariants as state
use Rattle.pd_plug.specs.declared.kinds.Stimulus.{Stimulus}
use Rattle.pd_plug.specs.declared.kinds.Stimulus.TheVariants as stimulus
use Rattle.pd_plug.specs.declared.kinds.Deed.{Deed}
use Rattle.pd_plug.specs.declared.kinds.Deed.TheVariants as deed
use Rattle.pd_plug.specs.Record.{PlugRecord}

-- the states, and the place of each in their list, which tells it from the others
abbrev pub all_states : List State
all_states = state.Off ∷ state.Ready ∷ state.GetIdentity ∷ state.SendIdentity ∷ []

abbrev pub state_place : State → ℕ
state_place state.Off = 0
state_place state.Ready = 1
state_place state.GetIdentity = 2
state_place state.SendIdentity = 3

abbrev pub among : State → List State → Bool
among s states = is_among state_place s states

-- all states but these
abbrev pub all_but : List State → List State
all_but excluded = without state_place all_states excluded

-- what stands in the column of stimuli
pub data Cue : Type 0 where
  Attach : Cue
  Ended : (t : Timer) → Cue
  DiscoverIdentity : Cue
  Sent : Cue
  Failed : Cue
  HardReset : Cue
  AnythingElse : Cue

abbrev pub matches : Cue → Stimulus → Bool
matches Attach (stimulus.Attach cable) = true
matches (Ended t) (stimulus.Ended u) = place t == place u
matches DiscoverIdentity stimulus.DiscoverIdentity = true
matches Sent stimulus.Sent = true
matches Failed stimulus.Failed = true
matches HardReset stimulus.HardReset = true
matches AnythingElse x = true
matches _ _ = false

abbrev pub match_one : Stimulus → List Cue → Bool
match_one x cues = list_any (λ c. matches c x) cues

-- what stands in brackets
pub data Guard : Type 0 where
  Always : Guard
  WithoutPlug : Guard
  Silent : Guard

-- whether a cable is attached that has no plug
abbrev pub has_no_plug : Option Cable → Bool
has_no_plug None = false
has_no_plug (Some cable) = absent cable.plug where
  absent : CablePlug → Bool
  absent plug.Absent = true
  absent _ = false

-- whether a cable is attached whose plug answers nothing
abbrev pub is_silent : Option Cable → Bool
is_silent None = false
is_silent (Some cable) = silent cable.plug where
  silent : CablePlug → Bool
  silent plug.Silent = true
  silent _ = false

-- whether a guard holds of what the engine keeps
abbrev pub holds : PlugRecord → Guard → Bool
holds r Always = true
holds r WithoutPlug = has_no_plug r.cable
holds r Silent = is_silent r.cable

-- what stands in the column of next states
pub data Next : Type 0 where
  Stay : Next
  To : (s : State) → Next

abbrev pub Row : Type 0
Row = tables.Row State Cue Guard Next Deed

abbrev pub table : List Row
table =
    -- Off
    row 1 (state.Off ∷ []) (Attach ∷ []) WithoutPlug Stay []
    ∷ row 2 (state.Off ∷ []) (Attach ∷ []) Always (To state.Ready) []
    -- all states but Off: PE_CBL_Ready, PE_CBL_Get_Identity and PE_CBL_Send_Identity
    ∷ row 3 (all_but (state.Off ∷ [])) (DiscoverIdentity ∷ []) Silent Stay []
    ∷ row 4 (all_but (state.Off ∷ [])) (DiscoverIdentity ∷ []) Always (To state.GetIdentity) (deed.StartDelay ∷ [])
    -- PE_CBL_Get_Identity
    ∷ row 5 (state.GetIdentity ∷ []) (Ended timer.Delay ∷ []) Always (To state.SendIdentity) (deed.SendIdentity ∷ [])
    -- PE_CBL_Send_Identity
    ∷ row 6 (state.SendIdentity ∷ []) (Sent ∷ Failed ∷ []) Always (To state.Ready) []
    -- all states but Off
    ∷ row 7 (all_but (state.Off ∷ [])) (HardReset ∷ []) Always (To state.Ready) []
    ∷ []

-- anything else, in each state: stay, no act
abbrev pub anything_else : Row
anything_else = row 0 all_states (AnythingElse ∷ []) Always Stay []

abbrev pub fits : (Guard → Bool) → State → Stimulus → Row → Bool
fits g s x r = (among s r.states && match_one x r.cues) && g r.guard

-- the first row that fits; where none does, anything else
abbrev pub first : (Guard → Bool) → State → Stimulus → List Row → Row
first g s x rows = first_row (fits g s x) anything_else rows

-- What a row does, in order. Entering comes before the row's acts.
abbrev pub deeds_of_row : Row → List Deed
deeds_of_row r = with_next r.next r.deeds where
  with_next : Next → List Deed → List Deed
  with_next Stay ds = ds
  with_next (To t) ds = deed.Enter t ∷ ds

-- the row for a state and a stimulus, where the guards are as told
unfoldable pub row_of : (Guard → Bool) → State → Stimulus → Row
row_of g s x = first g s x table
