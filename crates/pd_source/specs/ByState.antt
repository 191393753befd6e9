-- The source's state table read state by state, as the code goes through it. It says the same as the table.
use Rattle.std.specs.Prelude.{Bool, ◌&&◌, List}
use Rattle.pd_timers.specs.ByState.{rows_with, first_deeds}
use Rattle.pd_source.specs.declared.kinds.State.{State}
use Rattle.pd_source.specs.declared.kinds.State.TheVariants as state
use Rattle.pd_source.specs.declared.kinds.Heard.{Heard}
use Rattle.pd_source.specs.declared.kinds.Deed.{Deed}
use Rattle.pd_source.specs.Table.{Row, Guard, table, state_place, match_one, deeds_of_row}

abbrev pub rows_of : State → List Row
rows_of s = rows_with state_place s table

-- the rows of a state, one state a line: so nothing is looked up before the state is known
abbrev pub rows_in : State → List Row
rows_in state.Off = rows_of state.Off
rows_in state.Startup = rows_of state.Startup
rows_in state.VdmIdentityRequest = rows_of state.VdmIdentityRequest
rows_in state.SendCapabilities = rows_of state.SendCapabilities
rows_in state.Discovery = rows_of state.Discovery
rows_in state.NegotiateCapability = rows_of state.NegotiateCapability
rows_in state.CapabilityResponse = rows_of state.CapabilityResponse
rows_in state.TransitionSupply = rows_of state.TransitionSupply
rows_in state.Ready = rows_of state.Ready
rows_in state.WaitNewCapabilities = rows_of state.WaitNewCapabilities
rows_in state.GetSinkCap = rows_of state.GetSinkCap
rows_in state.SendSoftReset = rows_of state.SendSoftReset
rows_in state.SoftReset = rows_of state.SoftReset
rows_in state.HardReset = rows_of state.HardReset
rows_in state.HardResetReceived = rows_of state.HardResetReceived
rows_in state.TransitionToDefault = rows_of state.TransitionToDefault
rows_in state.Disabled = rows_of state.Disabled

-- what the first row of a state does that fits
abbrev pub deeds_in : (Guard → Bool) → State → Heard → List Deed
deeds_in g s h = first_deeds (λ r. match_one h r.cues && g r.guard) (deeds_of_row g) (rows_in s)
