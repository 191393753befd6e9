-- Ports that follow an older run through a span of it.
use Rattle.std.specs.Prelude.{◌≡◌, ◌⊎◌, ℕ, ◌+◌, ◌-◌, ◌<◌, ◌≤◌, ◌++◌, ◌∷◌, [], List, length, map, take, All, Bool, true}
use Rattle.std.specs.Prelude.{false, Option, None, Some, IsTrue}
use Rattle.std.specs.Prelude.{slice_get, slice_index_or}
use Rattle.pd_port.specs.declared.due.Due.{Due}
use Rattle.pd_scenario.specs.Plan.{Plan, IsPlan, count, floors_of, force}
use Rattle.pd_run.specs.Live.{LiveData, StandsAfter, StandsBut, IsNext, due_at, port_at}
use Rattle.pd_run.specs.Run.{Move, Run, GoesOn, IsAnswered, holds_after}
use Rattle.pd_run.specs.StepsLeft.{steps_left}
use Rattle.pd_run.specs.UpTo.{before, IsUpTo, AgreeInScripts, PortIsAlike}
use Rattle.pd_keep.specs.declared.follow.Course.{Course}
use Rattle.pd_keep.specs.Kept.{KeptData, RunData, move_of, moves_from, IsBrief, IsKnown, IsOwn, KeepsHold}
use Rattle.pd_keep.specs.declared.kept_move.Brief.{Brief}
use Rattle.pd_keep.specs.declared.rerun.Common.{Common}
use Rattle.pd_keep.specs.Rerun.{AreThose, Costs, HaveInCommon, BeginsWithMarked, IsSoFar}
use Rattle.pd_keep.specs.Spans.{BeginsAfter, IsKept, begins_at, moves_of}

-- a port, numbered from 0 here, is marked
abbrev pub IsAway : List Bool → ℕ → Type 0
IsAway away p = slice_index_or away p false ≡ true

-- the ports of moves are numbered from 1 to n
abbrev pub AreNumbered : ℕ → List KeptData → Type 0
AreNumbered n moves = (i : ℕ) (k : KeptData) → i < length moves
    → (1 ≤ (slice_index_or moves i k).port) × ((slice_index_or moves i k).port ≤ n)

-- a move comes before what is next on other ports, if anything is
abbrev pub ComesFirst : KeptData → Option (ℕ × Due) → Type 0
ComesFirst k None = Unit {0}
ComesFirst k (Some r) = (k.due.time < r.1.time) ⊎ ((k.due.time ≡ r.1.time) × (k.port < r.0))

-- it comes after this due of a port, or is of that port at its time
abbrev pub ComesAfter : KeptData → ℕ → Due → Type 0
ComesAfter k port d = (d.time < k.due.time) ⊎ ((d.time ≡ k.due.time) × (port ≤ k.port))

-- nothing that is kept of what falls due on ports is before a time, up to the end
abbrev pub IsLate : Plan → LiveData → ℕ → Type 0
IsLate plan live to = (q : ℕ) (f : Due) → q < count plan → due_at live q ≡ Some f → f.time ≤ plan.end → to ≤ f.time

-- this falls due first on the ports of which that is kept, before a time; or nothing does
abbrev pub IsOwnNext : Plan → LiveData → ℕ → Option (ℕ × Due) → Type 0
IsOwnNext plan live to None = IsLate plan live to
IsOwnNext plan live to (Some r) = IsNext plan live r.0 r.1 × (r.1.time < to)

-- from a place on this is the first move whose port follows, or there is none
pub record IsNextFollowed (moves : List KeptData) (away : List Bool) (from at : ℕ) : Type 0 where
  pub from_on : from ≤ at
  pub within : at ≤ length moves
  pub none : (i : ℕ) (k : KeptData) → from ≤ i → i < at → slice_index_or away ((slice_index_or moves i k).port - 1) false ≡ false
  pub there : (k : KeptData) → at < length moves → IsAway away ((slice_index_or moves at k).port - 1)

-- moves from one place to another leave their ports holding as much as before
abbrev pub KeepHold : List KeptData → ℕ → ℕ → Type 0
KeepHold moves from at = (i : ℕ) (k : KeptData) → from ≤ i → i < at → KeepsHold (slice_index_or moves i k)

-- this is the brief of a move of a port that follows, and the move comes before what is next on other ports
pub record IsFirstFollowed (moves : List KeptData) (away : List Bool) (at : ℕ) (own : Option (ℕ × Due)) (b : Brief) : Type 0 where
  pub inside : at < length moves
  pub brief : (k : KeptData) → IsBrief (slice_index_or moves at k) b
  pub there : IsAway away (b.port - 1)
  pub first : (k : KeptData) → ComesFirst (slice_index_or moves at k) own

-- Moves of an old run and of its ports go from one time to the end of a span, and both plans have the same scripts until then; a run of
-- the other plan has come up to that time by these moves.
pub record GoBeside (n : ℕ) (a : Plan) (all : List Move) (old : RunData) (b : Plan) (past : List Move) (from : ℕ) : Type 0 where
  pub is_plan : IsPlan n a
  pub is_plan_too : IsPlan n b
  pub run : Run a all
  pub is_between : before old.to all ≡ before from all ++ map move_of old.moves
  pub own : All (IsOwn a) old.moves
  pub begun : BeginsAfter n a (before from all) old
  pub scripts : AgreeInScripts a b from old.to
  pub rising : from < old.to
  pub soon : from ≤ a.end
  pub soon_too : from ≤ b.end
  pub up : IsUpTo b past from

-- two plans share alike from one time to another: the floors are the same, and at each instant the budget
pub record ShareAlike (a b : Plan) (from to : ℕ) : Type 0 where
  pub floors : floors_of a ≡ floors_of b
  pub budget : (t : ℕ) → from ≤ t → t < to → force a t ≡ force b t

-- and each port holds as much after these moves of the one as after those of the other
pub record HoldAlike (a b : Plan) (from to : ℕ) (moves others : List Move) : Type 0 where
  pub share : ShareAlike a b from to
  pub holds : holds_after a moves ≡ holds_after b others

-- ports of which those that are marked stand as the old run's do there, and may follow it; it may be known that both plans share alike
pub record CanFollow (n : ℕ) (a : Plan) (all : List Move) (old : RunData) (b : Plan) (past : List Move) (from : ℕ) (alike : List Bool)
    (share : Bool) (live : LiveData) : Type 0 where
  pub beside : GoBeside n a all old b past from
  pub known : BeginsWithMarked n old live alike
  pub stands : StandsAfter b past live
  pub shares : IsTrue share → ShareAlike a b from old.to

-- A run beside an old one comes to the beginning of a span of it with ports of its own, of which those that are marked stand as the
-- old run's, and is told what both plans have in common in the span.
pub record ComesApart (n : ℕ) (a : Plan) (old_spans : List RunData) (old : RunData) (b : Plan) (spans : List RunData) (from : ℕ)
    (common : Common) (alike : List Bool) (live : LiveData) : Type 0 where
  pub place : ℕ
  pub kept : IsKept n a old_spans
  pub there : slice_get old_spans place ≡ Some old
  pub from_is : from ≡ begins_at old_spans place
  pub far : IsSoFar n b spans from
  pub soon : from ≤ b.end
  pub stands : StandsAfter b (moves_of spans) live
  pub known : BeginsWithMarked n old live alike
  pub in_common : HaveInCommon common a b from old.to

-- a move of a port that follows is the next one where all ports stand
pub record IsPassing (plan : Plan) (past : List Move) (away : List Bool) (whole live : LiveData) (k : KeptData) : Type 0 where
  pub but : StandsBut plan past away whole live
  pub there : IsAway away (k.port - 1)
  pub next : IsNext plan whole k.port k.due
  pub goes : GoesOn plan past (move_of k)
  pub own : IsOwn plan k

-- it has passed: it is answered, and so the ports stand after it
pub record HasPassed (plan : Plan) (past : List Move) (away : List Bool) (whole live : LiveData) (k : KeptData) : Type 0 where
  pub then : LiveData
  pub but : StandsBut plan (past ++ move_of k ∷ []) away then live
  pub answered : IsAnswered plan past (move_of k)
  pub less : steps_left plan then < steps_left plan whole

-- How far a span has come of which some ports follow: where all ports stand; that those that follow stand as the old run's do after so
-- many of its moves; whether all ports are known to hold as much as the old run's do then; what is kept of the others; that the moves of
-- the span are the run so far; and what they cost, beside the old run's.
pub record HasCome (n : ℕ) (a : Plan) (all : List Move) (old : RunData) (b : Plan) (past : List Move) (from most first meter : ℕ)
    (course : Course) (live : LiveData) : Type 0 where
  pub beside : GoBeside n a all old b past from
  pub whole : LiveData
  pub but : StandsBut b (past ++ map move_of course.span.moves) course.away whole live
  pub within : course.at ≤ length old.moves
  pub alike : (p : ℕ) → p < n → IsAway course.away p
      → PortIsAlike a b (before from all ++ take course.at (map move_of old.moves)) (past ++ map move_of course.span.moves) p old.to
  pub held : IsTrue course.same_holds → HoldAlike a b from old.to (before from all ++ take course.at (map move_of old.moves))
      (past ++ map move_of course.span.moves)
  pub room : (length course.away ≡ 8) × (length course.places ≡ 8)
  pub placed : (p : ℕ) → p < n → slice_index_or course.away p false ≡ false
      → IsKnown old.first old.moves p (slice_index_or course.places p None) (port_at live p)
  pub own : All (IsOwn b) course.span.moves
  pub begun : BeginsAfter n b past course.span
  pub earlier : All (λ m. m.due.time < old.to) (map move_of course.span.moves)
  pub later : All (λ m. from ≤ m.due.time) (map move_of course.span.moves)
  pub few : steps_left b whole + length course.span.moves ≤ most
  pub cost : (olds : List KeptData) → All (IsOwn a) olds → AreThose olds from old.to old.moves
      → Costs a (map move_of olds) b (map move_of course.span.moves) first meter

-- the old run's moves have followed up to a place, which the span has then too
abbrev pub followed_to : Course → List KeptData → ℕ → Course
followed_to course moves at = record course {
  at = at;
  span = record course.span { moves = course.span.moves ++ moves_from moves course.at (at - course.at) };
}

-- a port that doesn't follow is the next one where all ports stand, before the end of the span
pub record IsOwnTurn (n : ℕ) (a : Plan) (all : List Move) (old : RunData) (b : Plan) (past : List Move) (from most first meter : ℕ)
    (course : Course) (live : LiveData) (port : ℕ) (d : Due) : Type 0 where
  pub come : HasCome n a all old b past from most first meter course live
  pub here : slice_index_or course.away (port - 1) false ≡ false
  pub next : IsNext b come.whole port d
  pub soon : d.time < old.to

-- a port that follows is, by the old run's move of this place
pub record IsFollowedTurn (n : ℕ) (a : Plan) (all : List Move) (old : RunData) (b : Plan) (past : List Move) (from most first meter : ℕ)
    (course : Course) (live : LiveData) : Type 0 where
  pub come : HasCome n a all old b past from most first meter course live
  pub passing : (k : KeptData) → IsPassing b (past ++ map move_of course.span.moves) course.away come.whole live
      (slice_index_or old.moves course.at k)

-- it has more moves
pub record HasCameOn (n : ℕ) (a : Plan) (all : List Move) (old : RunData) (b : Plan) (past : List Move) (from most first meter : ℕ)
    (course : Course) (live : LiveData) (moves : ℕ) : Type 0 where
  pub come : HasCome n a all old b past from most first meter course live
  pub more : moves < length course.span.moves

-- the span is whole: nothing more is due before its end
pub record IsThrough (n : ℕ) (a : Plan) (all : List Move) (old : RunData) (b : Plan) (past : List Move) (from most first meter : ℕ)
    (course : Course) (live : LiveData) : Type 0 where
  pub come : HasCome n a all old b past from most first meter course live
  pub up : IsUpTo b (past ++ map move_of course.span.moves) old.to
  pub over : course.at ≡ length old.moves
