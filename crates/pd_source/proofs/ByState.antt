-- The table read state by state is the table.
use Rattle.std.proofs.Common.{◌≡◌, Bool, ◌&&◌, refl, ap, sym, ◌∙◌}
use Rattle.pd_timers.specs.ByState.{first_deeds}
use Rattle.pd_timers.proofs.ByState.{deeds_by_state as first_by_state}
use Rattle.pd_source.specs.declared.kinds.State.{State}
use Rattle.pd_source.specs.declared.kinds.State.TheVariants as state
use Rattle.pd_source.specs.declared.kinds.Heard.{Heard}
use Rattle.pd_source.specs.Table.{Guard, table, among, match_one, anything_else, row_of, deeds_of_row}
use Rattle.pd_source.specs.ByState.{rows_of, rows_in, deeds_in}

each-state : (s : State) → rows_in s ≡ rows_of s
each-state state.Off = refl
each-state state.Startup = refl
each-state state.VdmIdentityRequest = refl
each-state state.SendCapabilities = refl
each-state state.Discovery = refl
each-state state.NegotiateCapability = refl
each-state state.CapabilityResponse = refl
each-state state.TransitionSupply = refl
each-state state.Ready = refl
each-state state.WaitNewCapabilities = refl
each-state state.GetSinkCap = refl
each-state state.SendSoftReset = refl
each-state state.SoftReset = refl
each-state state.HardReset = refl
each-state state.HardResetReceived = refl
each-state state.TransitionToDefault = refl
each-state state.Disabled = refl

pub deeds_by_state : (g : Guard → Bool) (s : State) (h : Heard) → deeds_in g s h ≡ deeds_of_row g (row_of g s h)
unfolding row_of
deeds_by_state g s h =
    ap (first_deeds (λ r. match_one h r.cues && g r.guard) (deeds_of_row g)) (each-state s)
    ∙ sym (first_by_state (deeds_of_row g) (λ r. among s r.states) (λ r. match_one h r.cues) (λ r. g r.guard) anything_else table refl)
