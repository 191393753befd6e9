-- How the deadlines of the sink's engine stand in memory, which has five timers: a slot of 32 bits for each.
use Rattle.std.specs.Prelude.{ℕ, List, [], ◌∷◌, Option, None}
use Rattle.pd_timers.specs.declared.Timer.{Timer}
use Rattle.pd_timers.specs.declared.Timer.TheVariants as timer
use Rattle.pd_timers.specs.declared.sink_deadlines.SinkTimer.{SinkTimer}
use Rattle.pd_timers.specs.declared.sink_deadlines.SinkTimer.TheVariants.{Delay, SenderResponse, SinkWaitCap, PsTransition, SinkRequest}
use Rattle.pd_timers.specs.Deadlines.{deadline}
use Rattle.pd_timers.specs.Slots.{time_of, slot_of}

-- the timer among those of all engines
abbrev pub timer_of : SinkTimer → Timer
timer_of Delay = timer.Delay
timer_of SenderResponse = timer.SenderResponse
timer_of SinkWaitCap = timer.SinkWaitCap
timer_of PsTransition = timer.PsTransition
timer_of SinkRequest = timer.SinkRequest

-- the deadlines of which none but those of the five timers are running, each in its place
abbrev pub with_times : Option ℕ → Option ℕ → Option ℕ → Option ℕ → Option ℕ → List (Option ℕ)
with_times delay response wait transition request =
    delay ∷ response ∷ None ∷ None ∷ wait ∷ None ∷ None ∷ None ∷ transition ∷ None ∷ None ∷ None ∷ request ∷ None ∷ []

-- what the five slots tell
abbrev pub with_five : ℕ → ℕ → ℕ → ℕ → ℕ → List (Option ℕ)
with_five delay response wait transition request =
    with_times (time_of delay) (time_of response) (time_of wait) (time_of transition) (time_of request)

-- What is told gives back what stands in memory.
abbrev pub slot : List (Option ℕ) → Timer → ℕ
slot d t = slot_of (deadline d t)
