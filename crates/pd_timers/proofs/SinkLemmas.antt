-- What starting, stopping and asking gives where no timers but the sink's five are running.
use Rattle.std.proofs.Common.{◌≡◌, ℕ, ◌+◌, ◌<◌, List, Option, None, refl}
use Rattle.pd_timers.specs.declared.Timer.{Timer}
use Rattle.pd_timers.specs.declared.Timer.TheVariants as timer
use Rattle.pd_timers.specs.Timers.{value_of}
use Rattle.pd_timers.specs.Deadlines.{started, stopped, keep, first_of}
use Rattle.pd_timers.specs.Slots.{time_of}
use Rattle.pd_timers.specs.declared.sink_deadlines.SinkTimer.{SinkTimer}
use Rattle.pd_timers.specs.declared.sink_deadlines.SinkTimer.TheVariants.{Delay, SenderResponse, SinkWaitCap, PsTransition, SinkRequest}
use Rattle.pd_timers.specs.SinkDeadlines.{timer_of, with_five}
use Rattle.pd_timers.proofs.SlotLemmas.{time_of-runs}

-- a timer started, its slot holds the time
pub delay_started : (old : List (Option ℕ)) (a b c d e now at : ℕ) (t : SinkTimer) → with_five a b c d e ≡ old → t ≡ Delay
    → at ≡ now + value_of (timer_of t) → at < 4294967295 → with_five at b c d e ≡ started old now (timer_of t)
unfolding started
delay_started old a b c d e now at t v is due h = let runs = time_of-runs at h in cc

pub response_started : (old : List (Option ℕ)) (a b c d e now at : ℕ) (t : SinkTimer) → with_five a b c d e ≡ old → t ≡ SenderResponse
    → at ≡ now + value_of (timer_of t) → at < 4294967295 → with_five a at c d e ≡ started old now (timer_of t)
unfolding started
response_started old a b c d e now at t v is due h = let runs = time_of-runs at h in cc

pub wait_started : (old : List (Option ℕ)) (a b c d e now at : ℕ) (t : SinkTimer) → with_five a b c d e ≡ old → t ≡ SinkWaitCap
    → at ≡ now + value_of (timer_of t) → at < 4294967295 → with_five a b at d e ≡ started old now (timer_of t)
unfolding started
wait_started old a b c d e now at t v is due h = let runs = time_of-runs at h in cc

pub transition_started : (old : List (Option ℕ)) (a b c d e now at : ℕ) (t : SinkTimer) → with_five a b c d e ≡ old → t ≡ PsTransition
    → at ≡ now + value_of (timer_of t) → at < 4294967295 → with_five a b c at e ≡ started old now (timer_of t)
unfolding started
transition_started old a b c d e now at t v is due h = let runs = time_of-runs at h in cc

pub request_started : (old : List (Option ℕ)) (a b c d e now at : ℕ) (t : SinkTimer) → with_five a b c d e ≡ old → t ≡ SinkRequest
    → at ≡ now + value_of (timer_of t) → at < 4294967295 → with_five a b c d at ≡ started old now (timer_of t)
unfolding started
request_started old a b c d e now at t v is due h = let runs = time_of-runs at h in cc

-- a timer stopped, its slot is idle
pub delay_stopped : (a b c d e : ℕ) → stopped (with_five a b c d e) timer.Delay ≡ with_five 4294967295 b c d e
unfolding stopped
delay_stopped a b c d e = refl

pub response_stopped : (a b c d e : ℕ) → stopped (with_five a b c d e) timer.SenderResponse ≡ with_five a 4294967295 c d e
unfolding stopped
response_stopped a b c d e = refl

pub wait_stopped : (a b c d e : ℕ) → stopped (with_five a b c d e) timer.SinkWaitCap ≡ with_five a b 4294967295 d e
unfolding stopped
wait_stopped a b c d e = refl

pub transition_stopped : (a b c d e : ℕ) → stopped (with_five a b c d e) timer.PsTransition ≡ with_five a b c 4294967295 e
unfolding stopped
transition_stopped a b c d e = refl

pub request_stopped : (a b c d e : ℕ) → stopped (with_five a b c d e) timer.SinkRequest ≡ with_five a b c d 4294967295
unfolding stopped
request_stopped a b c d e = refl

-- and stopping another timer changes nothing
pub another_stopped : (a b c d e : ℕ) (t : Timer) → (t ≡ timer.Delay → ⊥) → (t ≡ timer.SenderResponse → ⊥)
    → (t ≡ timer.SinkWaitCap → ⊥) → (t ≡ timer.PsTransition → ⊥) → (t ≡ timer.SinkRequest → ⊥)
    → stopped (with_five a b c d e) t ≡ with_five a b c d e
unfolding stopped
another_stopped a b c d e timer.Delay n o p q r = absurd (n refl)
another_stopped a b c d e timer.SenderResponse n o p q r = absurd (o refl)
another_stopped a b c d e timer.SinkWaitCap n o p q r = absurd (p refl)
another_stopped a b c d e timer.PsTransition n o p q r = absurd (q refl)
another_stopped a b c d e timer.SinkRequest n o p q r = absurd (r refl)
another_stopped a b c d e _ n o p q r = refl

-- the first deadline is the best of the five
pub first_of-five : (a b c d e : ℕ)
    → first_of (with_five a b c d e)
    ≡ keep
    (keep
    (keep (keep (keep None (time_of a) timer.Delay) (time_of b) timer.SenderResponse) (time_of c) timer.SinkWaitCap)
    (time_of d) timer.PsTransition)
    (time_of e) timer.SinkRequest
unfolding first_of
first_of-five a b c d e = refl
