-- How the deadlines of an engine stand in memory that has one timer alone, Delay: a slot of 32 bits.
use Rattle.std.specs.Prelude.{◌≡◌, ℕ, List, ◌∷◌, Option, None, replicate}
use Rattle.pd_timers.specs.declared.Timer.TheVariants.{Delay}
use Rattle.pd_timers.specs.Deadlines.{deadline}
use Rattle.pd_timers.specs.Slots.{time_of, slot_of, slot_of_time_of}

-- the deadlines of which no timer but Delay is running
abbrev pub with_delay : ℕ → List (Option ℕ)
with_delay at = time_of at ∷ replicate 13 None

-- What is told gives back what stands in memory.
abbrev pub delay_slot : List (Option ℕ) → ℕ
delay_slot d = slot_of (deadline d Delay)

pub delay_slot_with_delay : (at : ℕ) → delay_slot (with_delay at) ≡ at
delay_slot_with_delay at = slot_of_time_of at
