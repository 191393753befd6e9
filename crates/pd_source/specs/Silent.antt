-- A source that sheds holds nothing, to the end of that instant.
use Rattle.std.specs.Prelude.{◌≡◌, ◌<◌, ℕ, Bool, true, List, [], ◌∷◌, Option, Some, None}
use Rattle.pd_timers.specs.declared.Timer.{Timer}
use Rattle.pd_timers.specs.Deadlines.{deadline}
use Rattle.pd_objects.specs.declared.query.Answer.{Answer}
use Rattle.pd_source.specs.declared.kinds.State.{State}
use Rattle.pd_source.specs.declared.kinds.State.TheVariants as state
use Rattle.pd_source.specs.declared.kinds.Stimulus.{Stimulus}
use Rattle.pd_source.specs.declared.kinds.Stimulus.TheVariants as stimulus
use Rattle.pd_source.specs.Record.{SourceSettings, SourceRecord, off}
use Rattle.pd_source.specs.Table.{among}
use Rattle.pd_source.specs.Rest.{HoldsNothing, IsEmptyAtRest}
use Rattle.pd_source.specs.Step.{stepped}

-- whether the source sends no message: it is off or disabled, resets, or waits for its power to be turned on
abbrev pub is_silent : State → Bool
is_silent t = among t (state.Off ∷ state.Startup ∷ state.HardReset ∷ state.HardResetReceived ∷ state.TransitionToDefault ∷ state.Disabled
    ∷ [])

-- each deadline that runs is later than t
abbrev pub AllLater : ℕ → List (Option ℕ) → Type 0
AllLater t d = (u : Timer) (at : ℕ) → deadline d u ≡ Some at → t < at

-- At t the source is silent and holds nothing; and while it waits for its power to be turned on, no timer ends by t.
pub record IsSilentAt (t : ℕ) (r : SourceRecord) : Type 0 where
  pub silent : is_silent r.state ≡ true
  pub empty : HoldsNothing r
  pub waits : r.state ≡ state.Startup → AllLater t r.deadlines

-- a timer that has ended ran to this time
abbrev pub EndsNow : ℕ → Stimulus → SourceRecord → Type 0
EndsNow now (stimulus.Ended u) r = deadline r.deadlines u ≡ Some now
EndsNow now x r = Unit {0}

-- a source that is off is silent, and so is one that is told to shed
abbrev pub OffIsSilent : Type 0
OffIsSilent = (s : SourceSettings) (now : ℕ) → IsSilentAt now (off s)

abbrev pub ShedsAreSilent : Type 0
ShedsAreSilent =
    (s : SourceSettings) (now : ℕ) (r : SourceRecord) → IsEmptyAtRest r → IsSilentAt now (stepped s now stimulus.Shed None r)

-- whatever else happens at that time leaves it silent
abbrev pub SilentStaySilent : Type 0
SilentStaySilent =
    (s : SourceSettings) (now : ℕ) (x : Stimulus) (a : Option Answer) (r : SourceRecord) →
    EndsNow now x r → IsSilentAt now r → IsSilentAt now (stepped s now x a r)
