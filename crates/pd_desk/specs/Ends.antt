-- What the desk reads and writes, by its answer.
use Rattle.std.specs.Prelude.{◌≡◌, ◌⊎◌, ℕ, ◌≤◌, true, false, List, [], ◌∷◌, ◌++◌, length, map, All, Result, Ok, Err, Option}
use Rattle.std.specs.Str.Lines.{lines, strip_carriage_return}
use Rattle.std.specs.Io.KnownBytes.{Appends, Consumes, IsAtEnd}
use Rattle.pd_scenario.specs.Scenarios.{ScenarioData}
use Rattle.pd_device.specs.Device.{Begins, CountsFailure, Writes}
use Rattle.pd_device.specs.declared.fault.BenchFault.{BenchFault}
use Rattle.pd_device.specs.declared.fault.BenchFault.TheVariants.{ReadFailed, WriteFailed, Memory, ReaderTooLong}
use Rattle.pd_bench.specs.Session.{done_text}
use Rattle.pd_bench.specs.Stream.{HasRun}
use Rattle.pd_bench.specs.Traces.{HasNoLineFeed, ended}
use Rattle.pd_desk.specs.Commands.{is_quit}
use Rattle.pd_desk.specs.Desk.{DeskReplies, WithShelf, at_first, is_saved}
use Rattle.pd_desk.specs.Shelf.{Shelved}
use Rattle.pd_desk.specs.declared.left.Left.{Left}

-- ---- what is told beside the replies

-- what is known of the writer that takes it: its bytes, where it tells them, and how many of its calls failed
pub record Beside : Type 0 where
  pub taken : Option (List ℕ)
  pub failures : ℕ

abbrev pub beside : Option (List ℕ) → ℕ → Beside
beside taken failures = record { taken = taken; failures = failures }

-- A text went out, or its writer failed after the first bytes of it; that is no fault of the answers.
abbrev pub GoesOut : List ℕ → Beside → Beside → Type 0
GoesOut text w w' = (told : Result (Unit {0}) BenchFault) × Writes w.taken w'.taken told text × CountsFailure w.failures w'.failures told

-- one text after the other
abbrev pub GoOut : List (List ℕ) → Beside → Beside → Type 0
GoOut [] w w' = w' ≡ w
GoOut (text ∷ more) w w' = (next : Beside) × GoesOut text w next × GoOut more next w'

-- Where the answer went out, the text was told; else nothing was.
abbrev pub ToldAfter : Result (Unit {0}) BenchFault → List ℕ → Beside → Beside → Type 0
ToldAfter (Ok done) text w w' = GoesOut text w w'
ToldAfter (Err fault) text w w' = w' ≡ w

-- ---- the last line

-- a line behind which more are read
abbrev pub GoesOn : List ℕ → Type 0
GoesOn line = is_quit line ≡ false

-- All but the last go on.
abbrev pub GoOn : List (List ℕ) → Type 0
GoOn [] = Unit {0}
GoOn (line ∷ []) = Unit {0}
GoOn (line ∷ (next ∷ more)) = GoesOn line × GoOn (next ∷ more)

-- the last ends the session
pub record Quits (ls : List (List ℕ)) : Type 0 where
  pub front : List (List ℕ)
  pub last : List ℕ
  pub are : ls ≡ front ++ last ∷ []
  pub quits : is_quit last ≡ true

-- why no more than these bytes was read: there was no more, or the last of their lines ends the session
abbrev pub EndsAt : Option (List ℕ) → List ℕ → Type 0
EndsAt left' bytes = (IsAtEnd left' × (length bytes ≤ 16777216)) ⊎ (Quits (lines bytes) × (length bytes ≤ 16777217))

-- ---- the whole text

-- The text of the desk over these bytes: the replies to their lines, and at the end the counts; and what the shelf has come to.
pub record DeskText (n : ℕ) (s : ScenarioData) (shelf : Shelved) (bytes text : List ℕ) (tolds : List (List ℕ)) (shelf' : Shelved)
    (left : Left) : Type 0 where
  pub replies : List ℕ
  pub after : WithShelf
  pub go_on : GoOn (lines bytes)
  pub are_replies : DeskReplies n (at_first s shelf) (lines bytes) replies tolds after
  pub shelf_is : shelf' ≡ after.shelf
  pub tally_is : left.tally ≡ after.desk.tally
  pub saved_is : left.is_saved ≡ is_saved after.desk
  pub text_is : text ≡ replies ++ done_text left.tally

-- all that is to be read was, and the text over it was written
pub record DeskDone (n : ℕ) (left left' taken taken' : Option (List ℕ)) (w w' : Beside) (shelf shelf' : Shelved) (s : ScenarioData)
    (end : Left) : Type 0 where
  pub bytes : List ℕ
  pub consumes : Consumes left left' bytes
  pub ends : EndsAt left' bytes
  pub out : List ℕ
  pub appends : Appends taken taken' out
  pub tolds : List (List ℕ)
  pub tells : GoOut tolds w w'
  pub text : DeskText n s shelf bytes out tolds shelf' end

-- So many bytes were read: some ended lines, whose replies were written, and the first bytes of one more. The scenario that
-- stands then has a run.
pub record DeskStopped (n : ℕ) (left left' taken taken' : Option (List ℕ)) (w w' : Beside) (shelf shelf' : Shelved) (s : ScenarioData)
    (count : ℕ) : Type 0 where
  pub whole : List (List ℕ)
  pub open_yet : List ℕ
  pub are_whole : All HasNoLineFeed whole
  pub go_on : All GoesOn (map strip_carriage_return whole)
  pub is_open : HasNoLineFeed open_yet
  pub consumes : Consumes left left' (ended whole ++ open_yet)
  pub counts : length (ended whole ++ open_yet) ≡ count
  pub out : List ℕ
  pub appends : Appends taken taken' out
  pub tolds : List (List ℕ)
  pub tells : GoOut tolds w w'
  pub after : WithShelf
  pub are_replies : DeskReplies n (at_first s shelf) (map strip_carriage_return whole) out tolds after
  pub shelf_is : shelf' ≡ after.shelf
  pub run : HasRun after.desk.scenario

-- some bytes were read, and what was written begins the text over them
pub record DeskCut (n : ℕ) (left left' taken taken' : Option (List ℕ)) (w w' : Beside) (shelf shelf' : Shelved) (s : ScenarioData) : Type
    0 where
  pub bytes : List ℕ
  pub consumes : Consumes left left' bytes
  pub few : length bytes ≤ 16777217
  pub out : List ℕ
  pub appends : Appends taken taken' out
  pub tolds : List (List ℕ)
  pub later : List (List ℕ)
  pub tells : GoOut tolds w w'
  pub whole : List ℕ
  pub end : Left
  pub text : DeskText n s shelf bytes whole (tolds ++ later) shelf' end
  pub begins : Begins out whole

-- Without memory for the first run nothing is read, written, told or saved.
abbrev pub DeskEnds : ℕ → Result Left BenchFault → Option (List ℕ) → Option (List ℕ) → Option (List ℕ) → Option (List ℕ) →
    Beside → Beside → Shelved → Shelved → ScenarioData → Type 0
DeskEnds n (Ok end) left left' taken taken' w w' shelf shelf' s = DeskDone n left left' taken taken' w w' shelf shelf' s end
DeskEnds n (Err ReadFailed) left left' taken taken' w w' shelf shelf' s =
    (count : ℕ) × (count ≤ 16777216) × DeskStopped n left left' taken taken' w w' shelf shelf' s count
DeskEnds n (Err WriteFailed) left left' taken taken' w w' shelf shelf' s = DeskCut n left left' taken taken' w w' shelf shelf' s
DeskEnds n (Err Memory) left left' taken taken' w w' shelf shelf' s = (left' ≡ left) × (taken' ≡ taken) × (w' ≡ w) × (shelf' ≡ shelf)
DeskEnds n (Err ReaderTooLong) left left' taken taken' w w' shelf shelf' s =
    DeskStopped n left left' taken taken' w w' shelf shelf' s 16777217

-- the bytes that were read
abbrev pub read_of : (n : ℕ) (result : Result Left BenchFault) (left left' taken taken' : Option (List ℕ)) (w w' : Beside)
    (shelf shelf' : Shelved) (s : ScenarioData) → DeskEnds n result left left' taken taken' w w' shelf shelf' s → List ℕ
read_of n (Ok end) left left' taken taken' w w' shelf shelf' s ends = ends.bytes
read_of n (Err ReadFailed) left left' taken taken' w w' shelf shelf' s ends = ended ends.2.whole ++ ends.2.open_yet
read_of n (Err WriteFailed) left left' taken taken' w w' shelf shelf' s ends = ends.bytes
read_of n (Err Memory) left left' taken taken' w w' shelf shelf' s ends = []
read_of n (Err ReaderTooLong) left left' taken taken' w w' shelf shelf' s ends = ended ends.whole ++ ends.open_yet
