-- What a source holds of the shared budget while it is at rest, and once it has shed.
use Rattle.std.specs.Prelude.{◌≡◌, ℕ, Bool, true, [], ◌∷◌, Option, None}
use Rattle.pd_objects.specs.declared.query.Answer.{Answer}
use Rattle.pd_source.specs.declared.kinds.State.{State}
use Rattle.pd_source.specs.declared.kinds.State.TheVariants as state
use Rattle.pd_source.specs.declared.kinds.Stimulus.{Stimulus}
use Rattle.pd_source.specs.declared.kinds.Stimulus.TheVariants as stimulus
use Rattle.pd_source.specs.Record.{SourceSettings, SourceRecord, off}
use Rattle.pd_source.specs.Table.{among}
use Rattle.pd_source.specs.Step.{stepped, hold_of}

-- whether the source is off, waits for a sink that answers no offer, or is disabled
abbrev pub is_at_rest : State → Bool
is_at_rest t = among t (state.Off ∷ state.Discovery ∷ state.Disabled ∷ [])

-- nothing is offered anew, accepted or agreed on
pub record HoldsNothing (r : SourceRecord) : Type 0 where
  pub draft : r.draft_offer ≡ []
  pub accepted : r.accepted_request ≡ None
  pub contract : r.contract ≡ None

-- a source at rest holds nothing
abbrev pub IsEmptyAtRest : SourceRecord → Type 0
IsEmptyAtRest r = is_at_rest r.state ≡ true → HoldsNothing r

-- so it is from the start on, and after each step
abbrev pub TheStartIsEmptyAtRest : Type 0
TheStartIsEmptyAtRest = (s : SourceSettings) → IsEmptyAtRest (off s)

abbrev pub StepsStayEmptyAtRest : Type 0
StepsStayEmptyAtRest =
    (s : SourceSettings) (now : ℕ) (x : Stimulus) (a : Option Answer) (r : SourceRecord) →
    IsEmptyAtRest r → IsEmptyAtRest (stepped s now x a r)

-- a source that is told to shed holds the floor alone
abbrev pub ShedsFallToTheFloor : Type 0
ShedsFallToTheFloor =
    (s : SourceSettings) (floor now : ℕ) (r : SourceRecord) → IsEmptyAtRest r → hold_of s floor (stepped s now stimulus.Shed None r) ≡ floor
