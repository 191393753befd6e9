-- The table read state by state is the table.
use Rattle.std.proofs.Common.{◌≡◌, Bool, ◌&&◌, refl, ap, sym, ◌∙◌}
use Rattle.pd_timers.specs.ByState.{first_deeds}
use Rattle.pd_timers.proofs.ByState.{deeds_by_state as first_by_state}
use Rattle.pd_sink.specs.declared.kinds.State.{State}
use Rattle.pd_sink.specs.declared.kinds.State.TheVariants as state
use Rattle.pd_sink.specs.declared.kinds.Stimulus.{Stimulus}
use Rattle.pd_sink.specs.Table.{Guard, table, among, match_one, anything_else, row_of, deeds_of_row}
use Rattle.pd_sink.specs.ByState.{rows_of, rows_in, deeds_in}

each-state : (s : State) → rows_in s ≡ rows_of s
each-state state.Off = refl
each-state state.Disabled = refl
each-state state.Discovery = refl
each-state state.WaitForCapabilities = refl
each-state state.EvaluateCapability = refl
each-state state.SelectCapability = refl
each-state state.TransitionSink = refl
each-state state.Ready = refl
each-state state.GiveSinkCap = refl
each-state state.GetSourceCap = refl
each-state state.SendSoftReset = refl
each-state state.SoftReset = refl
each-state state.HardReset = refl
each-state state.TransitionToDefault = refl

pub deeds_by_state : (g : Guard → Bool) (s : State) (x : Stimulus) → deeds_in g s x ≡ deeds_of_row g (row_of g s x)
unfolding row_of
deeds_by_state g s x =
    ap (first_deeds (λ r. match_one x r.cues && g r.guard) (deeds_of_row g)) (each-state s)
    ∙ sym (first_by_state (deeds_of_row g) (λ r. among s r.states) (λ r. match_one x r.cues) (λ r. g r.guard) anything_else table refl)
