-- A run beside an older one.
use Rattle.std.specs.Prelude.{◌≡◌, ◌⊎◌, ℕ, ◌<◌, ◌≤◌, ◌++◌, ◌↔◌, List, [], length, map, slice_get, Some, All, Contains}
use Rattle.std.specs.Prelude.{Bool, IsTrue, true, false, slice_index_or}
use Rattle.pd_port.specs.Meter.{raised}
use Rattle.pd_scenario.specs.Plan.{Plan, IsPlan, floors_of}
use Rattle.pd_run.specs.Live.{LiveData, StandsAfter, port_at, port_after}
use Rattle.pd_run.specs.Start.{no_port}
use Rattle.pd_run.specs.Order.{EachAfter}
use Rattle.pd_run.specs.Run.{Move, GoesOn}
use Rattle.pd_run.specs.UpTo.{before, IsUpTo, AgreeAs, AreAlike}
use Rattle.pd_keep.specs.declared.rerun.Common.{Common}
use Rattle.pd_keep.specs.declared.rerun.Standing.{Standing}
use Rattle.pd_keep.specs.declared.rerun.Standing.TheVariants as standing
use Rattle.pd_keep.specs.Fresh.{AreFresh}
use Rattle.pd_keep.specs.Kept.{KeptData, move_of, IsOwn}
use Rattle.pd_keep.specs.Kept.{RunData}
use Rattle.pd_keep.specs.Places.{StandAs}
use Rattle.pd_keep.specs.Spans.{kept_of_spans, moves_of, end_of, begins_at, BeginsAfter, AreSpans, IsKept}

-- what a run is made beside: no run, or what is kept of a plan's
abbrev pub IsOld : ℕ → Plan → List RunData → Type 0
IsOld n old spans = (spans ≡ []) ⊎ IsKept n old spans

-- After these moves the ports stand as those of the old run at a time, and the old run goes on from there, or both have ended.
pub record StandsAlike (n : ℕ) (old : Plan) (old_spans : List RunData) (plan : Plan) (moves : List Move) (at : ℕ) : Type 0 where
  pub kept : IsKept n old old_spans
  pub alike : AreAlike old (before at (moves_of old_spans)) plan moves
  pub ends : (old.end ≡ plan.end) ⊎ (at ≤ old.end)

-- After these moves the ports stand for themselves; those that are marked stand as the old run's do at a time all the same.
pub record StandsApart (n : ℕ) (old : Plan) (old_spans : List RunData) (plan : Plan) (moves : List Move) (at : ℕ) (live : LiveData)
    (alike : List Bool) : Type 0 where
  pub stands : StandsAfter plan moves live
  pub known : StandAs n alike live (port_after old (before at (moves_of old_spans)))

-- after these moves the ports stand so at a time
abbrev pub Stands : (n : ℕ) → Plan → List RunData → Plan → List Move → ℕ → Standing n → Type 0
Stands n old old_spans plan moves at standing.Alike = StandsAlike n old old_spans plan moves at
Stands n old old_spans plan moves at (standing.Apart live alike) = StandsApart n old old_spans plan moves at live alike

-- what moves cost beside old ones: a step for each that is fresh
abbrev pub Costs : Plan → List Move → Plan → List Move → ℕ → ℕ → Type 0
Costs old old_moves plan moves before after = (n : ℕ) × AreFresh old old_moves plan moves n × (after ≡ raised before n)

-- what is kept of a plan's run as far as it has come: spans up to a time
pub record IsSoFar (n : ℕ) (plan : Plan) (spans : List RunData) (at : ℕ) : Type 0 where
  pub is_plan : IsPlan n plan
  pub up : IsUpTo plan (moves_of spans) at
  pub own : All (IsOwn plan) (kept_of_spans spans)
  pub spanned : AreSpans n plan spans
  pub at_is : at ≡ end_of 0 spans
  pub within : (k : ℕ) → k ≤ length spans → begins_at spans k ≤ at
  pub needed : (k : ℕ) → k < length spans → begins_at spans k ≤ plan.end

-- a span that goes on with a run, from a time on
pub record IsNextSpan (n : ℕ) (plan : Plan) (moves : List Move) (from : ℕ) (span : RunData) : Type 0 where
  pub rising : from < span.to
  pub begun : BeginsAfter n plan moves span
  pub own : All (IsOwn plan) span.moves
  pub later : All (λ m. from ≤ m.due.time) (map move_of span.moves)
  pub up : IsUpTo plan (moves ++ map move_of span.moves) span.to

-- this is in common from one time to another: so far two plans ask the same, and where they are said to have the same floors they do
pub record HaveInCommon (common : Common) (a b : Plan) (from to : ℕ) : Type 0 where
  pub agrees : AgreeAs common.agree a b from to
  pub floors : IsTrue common.same_floors → floors_of a ≡ floors_of b

-- a run beside an old one comes to the beginning of a span of the old one, and is told what both plans have in common in it
pub record ComesTo (n : ℕ) (old : Plan) (old_spans : List RunData) (span : RunData) (plan : Plan) (spans : List RunData) (at : ℕ)
    (common : Common) (standing : Standing n) : Type 0 where
  pub place : ℕ
  pub kept : IsKept n old old_spans
  pub there : slice_get old_spans place ≡ Some span
  pub at_is : at ≡ begins_at old_spans place
  pub far : IsSoFar n plan spans at
  pub soon : at ≤ plan.end
  pub stands : Stands n old old_spans plan (moves_of spans) at standing
  pub in_common : HaveInCommon common old plan at span.to

-- a span of an old run is one of the run too: it goes on with it, none of its moves is fresh, and the ports stand alike after it
pub record IsShared (n : ℕ) (old : Plan) (old_spans : List RunData) (span : RunData) (plan : Plan) (moves : List Move) (at : ℕ) : Type 0
  where
    pub next : IsNextSpan n plan moves at span
    pub stands : StandsAlike n old old_spans plan (moves ++ map move_of span.moves) span.to
    pub fresh : AreFresh old (moves_of old_spans) plan (map move_of span.moves) 0

-- a span begins with a plan's ports as these moves have left them, and its moves are of these ports and go on from there
pub record GoesOnWith (n : ℕ) (plan : Plan) (past : List Move) (span : RunData) : Type 0 where
  pub begun : BeginsAfter n plan past span
  pub own : All (IsOwn plan) span.moves
  pub chained : EachAfter (GoesOn plan) past (map move_of span.moves)

-- of what is kept of an old run these are all from one time to another
abbrev pub AreThose : List KeptData → ℕ → ℕ → List KeptData → Type 0
AreThose all from to some = (k : KeptData) → from ≤ k.due.time → k.due.time < to → (Contains all k ↔ Contains some k)

-- the run has ended, unless its ports stand for themselves
abbrev pub IsDone : (n : ℕ) → Plan → ℕ → Standing n → Type 0
IsDone n plan at standing.Alike = plan.end < at
IsDone n plan at (standing.Apart live alike) = Unit {0}

-- a span begins with this one of these ports
abbrev pub HasFirst : RunData → LiveData → ℕ → Type 0
HasFirst span live p = (p < length span.first) × (slice_index_or span.first p no_port ≡ port_at live p)

-- with each of them
abbrev pub BeginsWith : ℕ → RunData → LiveData → Type 0
BeginsWith n span live = (p : ℕ) → p < n → HasFirst span live p

-- with those that are marked
abbrev pub BeginsWithMarked : ℕ → RunData → LiveData → List Bool → Type 0
BeginsWithMarked n span live marks = (p : ℕ) → p < n → slice_index_or marks p false ≡ true → HasFirst span live p

-- they stand so already, or the span begins with them
abbrev pub AreStanding : (n : ℕ) → Standing n → RunData → Type 0
AreStanding n standing.Alike span = Unit {0}
AreStanding n (standing.Apart live alike) span = BeginsWith n span live

-- of ports that stand for themselves, the span begins with those that are marked
abbrev pub AreKnown : (n : ℕ) → Standing n → RunData → Type 0
AreKnown n standing.Alike span = Unit {0}
AreKnown n (standing.Apart live alike) span = BeginsWithMarked n span live alike

-- an old run has no move from a time on
abbrev pub AreOver : List RunData → ℕ → Type 0
AreOver spans at = All (λ m. m.due.time < at) (moves_of spans)
