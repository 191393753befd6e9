-- Moves that are kept.
use Rattle.std.specs.Prelude.{◌≡◌, ◌↔◌, ℕ, ◌-◌, ◌<◌, ◌≤◌, ◌==◌, if◌then◌else◌, true, false, List, [], ◌∷◌, length}
use Rattle.std.specs.Prelude.{Option, None, Some, drop, slice_index_or, take}
use Rattle.pd_objects.specs.declared.query.Answer.{Answer}
use Rattle.pd_port.specs.declared.due.Due.{Due}
use Rattle.pd_port.specs.Port.{PortData, record_after, entry_of, hold, is_event}
use Rattle.pd_scenario.specs.Plan.{Plan, settings_of}
use Rattle.pd_run.specs.declared.note.Marks.{Marks}
use Rattle.pd_run.specs.Notes.{marks_of}
use Rattle.pd_run.specs.Run.{Move}
use Rattle.pd_run.specs.Start.{no_port}
use Rattle.pd_port.specs.declared.entry.Entry.{Entry}
use Rattle.pd_keep.specs.declared.kept_move.Brief.{Brief}
use Rattle.pd_keep.specs.declared.kept_move.Place.{Place}
use Rattle.pd_keep.specs.declared.kept_move.Place.TheVariants as place
use Rattle.pd_keep.specs.declared.rank.Rank.{Rank}
use Rattle.pd_keep.specs.Ranks.{IsBefore, number_due, rank_of}

-- What is kept of a move: its port, numbered from 1, as it was before it; what fell due; the answer to what the port asked; the
-- port after it; and what the move left to be read.
pub record KeptData : Type 0 where
  pub port : ℕ
  pub before : PortData
  pub due : Due
  pub answer : Option Answer
  pub after : PortData
  pub entry : Entry

-- what is kept of a port's move for a due, with an answer
abbrev pub kept_of : ℕ → PortData → Due → Option Answer → KeptData
kept_of p x d a = record {
  port = p;
  before = x;
  due = d;
  answer = a;
  after = record { settings = x.settings; port_record = record_after x.settings x.port_record d a };
  entry = entry_of x.settings x.port_record d a;
}

-- it is what its port made of its due
abbrev pub IsMade : KeptData → Type 0
IsMade k = k ≡ kept_of k.port k.before k.due k.answer

-- the move that it stands for; ports are numbered from 0 there
abbrev pub move_of : KeptData → Move
move_of k = record { port = k.port - 1; before = k.before.port_record; due = k.due; answer = k.answer; entry = k.entry }

-- it is a move of a port of the plan
pub record IsOwn (plan : Plan) (k : KeptData) : Type 0 where
  pub made : IsMade k
  pub from_one : 1 ≤ k.port
  pub settings : k.before.settings ≡ settings_of plan (k.port - 1)

-- what is kept stands in the order of times
abbrev pub AreInTime : List KeptData → Type 0
AreInTime old = (i j : ℕ) (e : KeptData) → i ≤ j → j < length old → (slice_index_or old i e).due.time ≤ (slice_index_or old j e).due.time

-- where a move stands among the moves of a run
abbrev pub rank_kept : KeptData → Rank
rank_kept k = rank_of k.port k.due

-- none of the first n moves stands before one that comes before it
abbrev pub AreRankedTo : List KeptData → ℕ → Type 0
AreRankedTo moves n = (i j : ℕ) (k : KeptData) → i < j → j < n
    → IsBefore (rank_kept (slice_index_or moves j k)) (rank_kept (slice_index_or moves i k)) → ⊥

-- none of all
abbrev pub AreRanked : List KeptData → Type 0
AreRanked moves = AreRankedTo moves (length moves)

-- none of the first n stands just here
abbrev pub NoneStands : Rank → List KeptData → ℕ → Type 0
NoneStands rank moves n = (i : ℕ) (k : KeptData) → i < n → rank_kept (slice_index_or moves i k) ≡ rank → ⊥

-- so many of them, from a place on
abbrev pub moves_from : List KeptData → ℕ → ℕ → List KeptData
moves_from moves from n = take n (drop from moves)

-- how a port, numbered from 0 here, stands after these moves, if it stood so before them
abbrev pub left_from : PortData → List KeptData → ℕ → PortData
left_from x [] p = x
left_from x (k ∷ ks) p = left_from (if k.port - 1 == p then k.after else x) ks p

-- how it stands after the moves of a span, which has the ports as they stood before them
abbrev pub left_by : List PortData → List KeptData → ℕ → PortData
left_by first moves p = left_from (slice_index_or first p no_port) moves p

-- a port stands at this place of a span: as at its beginning, or as the move at this number has left it
abbrev pub IsLeft : List PortData → List KeptData → ℕ → Place → PortData → Type 0
IsLeft first moves p place.First x = slice_index_or first p no_port ≡ x
IsLeft first moves p (place.After i) x = (i < length moves) × ((k : KeptData) → (slice_index_or moves i k).after ≡ x)

-- it does, if a place is known
abbrev pub IsKnown : List PortData → List KeptData → ℕ → Option Place → PortData → Type 0
IsKnown first moves p None x = Unit {0}
IsKnown first moves p (Some place) x = IsLeft first moves p place x

-- at these places stood the port of each move before it
pub record AreLinked (first : List PortData) (moves : List KeptData) (links : List Place) : Type 0 where
  pub count : length links ≡ length moves
  pub linked : (i : ℕ) (k : KeptData) → i < length moves
      → IsLeft first moves ((slice_index_or moves i k).port - 1) (slice_index_or links i place.First) (slice_index_or moves i k).before

-- at these places eight ports stand after all moves
pub record AreLast (first : List PortData) (moves : List KeptData) (lasts : List Place) : Type 0 where
  pub count : length lasts ≡ 8
  pub last : (p : ℕ) → p < 8 → IsLeft first moves p (slice_index_or lasts p place.First) (left_by first moves p)

-- what a port holds of the shared budget
abbrev pub held_by : PortData → ℕ
held_by x = hold x.settings x.port_record

-- a move leaves its port holding as much as before
abbrev pub KeepsHold : KeptData → Type 0
KeepsHold k = held_by k.after ≡ held_by k.before

-- a move asks nothing of the shared budget, and its port holds as much after it as before
pub record IsQuiet (k : KeptData) : Type 0 where
  pub unasked : k.entry.query ≡ None
  pub unanswered : k.answer ≡ None
  pub same_hold : KeepsHold k

-- this is the brief of a move: when it was, of which port, by which number, whether for an event, and what the port held before it; it
-- stirs where it isn't quiet, and is marked where it keeps its port's hold
pub record IsBrief (k : KeptData) (b : Brief) : Type 0 where
  pub time : b.time ≡ k.due.time
  pub port : b.port ≡ k.port
  pub number : b.number ≡ number_due k.due.what
  pub event : b.is_event ≡ is_event k.due.what
  pub quiet : (b.stirs ≡ false) ↔ IsQuiet k
  pub keeps : (b.keeps_hold ≡ true) ↔ KeepsHold k
  pub held : b.held ≡ held_by k.before

-- stands where there is no move
abbrev pub no_brief : Brief
no_brief = record { time = 0; port = 0; number = 0; is_event = false; stirs = true; keeps_hold = false; held = 0 }

-- these are the briefs of moves
pub record AreBrief (moves : List KeptData) (briefs : List Brief) : Type 0 where
  pub count : length briefs ≡ length moves
  pub told : (i : ℕ) (k : KeptData) → i < length moves → IsBrief (slice_index_or moves i k) (slice_index_or briefs i no_brief)

-- moves up to a time, and the ports as they are before them
pub record RunData : Type 0 where
  pub to : ℕ
  pub first : List PortData
  pub moves : List KeptData

-- what a move shows
abbrev pub shown_of : KeptData → ℕ × Entry
shown_of k = (k.port, k.entry)

-- the marks of a move's entry
abbrev pub marks_kept : KeptData → Marks
marks_kept k = marks_of (shown_of k)
