-- What stopping and asking gives where no timer but Delay is running.
use Rattle.std.proofs.Common.{◌≡◌, ℕ, ◌∷◌, Some, None, Bool, true, false, nat_eq, replicate, refl}
use Rattle.std.specs.Prelude.{if◌then◌else◌}
use Rattle.pd_timers.specs.declared.Timer.{Timer}
use Rattle.pd_timers.specs.declared.Timer.TheVariants.{Delay}
use Rattle.pd_timers.specs.Deadlines.{stopped, first_of}
use Rattle.pd_timers.specs.Slots.{told}
use Rattle.pd_timers.specs.DelayAlone.{with_delay}

-- Delay stopped, no timer is running
pub delay_stopped : (at : ℕ) → stopped (with_delay at) Delay ≡ with_delay 4294967295
unfolding stopped
delay_stopped at = refl

-- and stopping another timer changes nothing
pub another_stopped : (at : ℕ) (t : Timer) → (t ≡ Delay → ⊥) → stopped (with_delay at) t ≡ with_delay at
unfolding stopped
another_stopped at Delay n = absurd (n refl)
another_stopped at _ n = refl

first_of-slot : (at : ℕ) (b : Bool)
    → first_of ((if b then None else Some at) ∷ replicate 13 None) ≡ (if b then None else Some (at, Delay))
unfolding first_of
first_of-slot at true = refl
first_of-slot at false = refl

-- the first deadline is that of Delay, where it is running
pub first_is_told : (at : ℕ) → first_of (with_delay at) ≡ told at Delay
first_is_told at = first_of-slot at (nat_eq at 4294967295)
