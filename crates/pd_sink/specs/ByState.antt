-- The sink's state table read state by state, as the code goes through it. It says the same as the table.
use Rattle.std.specs.Prelude.{Bool, ◌&&◌, List}
use Rattle.pd_timers.specs.ByState.{rows_with, first_deeds}
use Rattle.pd_sink.specs.declared.kinds.State.{State}
use Rattle.pd_sink.specs.declared.kinds.State.TheVariants as state
use Rattle.pd_sink.specs.declared.kinds.Stimulus.{Stimulus}
use Rattle.pd_sink.specs.declared.kinds.Deed.{Deed}
use Rattle.pd_sink.specs.Table.{Row, Guard, table, state_place, match_one, deeds_of_row}

abbrev pub rows_of : State → List Row
rows_of s = rows_with state_place s table

-- the rows of a state, one state a line: so nothing is looked up before the state is known
abbrev pub rows_in : State → List Row
rows_in state.Off = rows_of state.Off
rows_in state.Disabled = rows_of state.Disabled
rows_in state.Discovery = rows_of state.Discovery
rows_in state.WaitForCapabilities = rows_of state.WaitForCapabilities
rows_in state.EvaluateCapability = rows_of state.EvaluateCapability
rows_in state.SelectCapability = rows_of state.SelectCapability
rows_in state.TransitionSink = rows_of state.TransitionSink
rows_in state.Ready = rows_of state.Ready
rows_in state.GiveSinkCap = rows_of state.GiveSinkCap
rows_in state.GetSourceCap = rows_of state.GetSourceCap
rows_in state.SendSoftReset = rows_of state.SendSoftReset
rows_in state.SoftReset = rows_of state.SoftReset
rows_in state.HardReset = rows_of state.HardReset
rows_in state.TransitionToDefault = rows_of state.TransitionToDefault

-- what the first row of a state does that fits
abbrev pub deeds_in : (Guard → Bool) → State → Stimulus → List Deed
deeds_in g s x = first_deeds (λ r. match_one x r.cues && g r.guard) (deeds_of_row g) (rows_in s)
