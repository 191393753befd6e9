-- How lines are taken from a reader, and answered.
use Rattle.std.specs.Prelude.{◌≡◌, ◌⊎◌, ℕ, ◌+◌, ◌≤◌, Bool, true, false, List, [], ◌∷◌, ◌++◌, length, map, All, Option}
use Rattle.std.specs.Str.Lines.{strip_carriage_return}
use Rattle.std.specs.Io.KnownBytes.{Appends, Consumes, IsAtEnd}
use Rattle.pd_scenario.specs.Scenarios.{ScenarioData}
use Rattle.pd_device.specs.Device.{WrotePart}
use Rattle.pd_device.specs.declared.fault.BenchFault.{BenchFault}
use Rattle.pd_device.specs.declared.fault.BenchFault.TheVariants.{ReadFailed, WriteFailed, Memory, ReaderTooLong}
use Rattle.pd_bench.specs.Pending.{IsPending}
use Rattle.pd_bench.specs.Session.{done_text}
use Rattle.pd_bench.specs.Traces.{HasNoLineFeed, ended}
use Rattle.pd_desk.specs.Commands.{is_quit}
use Rattle.pd_desk.specs.Desk.{DeskReplies, WithShelf, at_first}
use Rattle.pd_desk.specs.Ends.{Beside, GoesOn, GoOut}
use Rattle.pd_desk.specs.Shelf.{Shelved}

-- The bytes of a line were read, and no line feed. What is kept stands for them.
pub record TakingLine (left left' : Option (List ℕ)) (total total' : ℕ) (kept : List ℕ) : Type 0 where
  pub raw : List ℕ
  pub pending : IsPending raw kept
  pub consumes : Consumes left left' raw
  pub counts : total' ≡ total + length raw

-- a line was read, and the line feed that ends it
pub record TookLine (left left' : Option (List ℕ)) (total total' : ℕ) (kept : List ℕ) : Type 0 where
  pub raw : List ℕ
  pub uncut : List ℕ
  pub pending : IsPending raw uncut
  pub cut : kept ≡ strip_carriage_return uncut
  pub consumes : Consumes left left' (raw ++ 10 ∷ [])
  pub counts : total' ≡ total + (length raw + 1)
  pub few : total' ≤ 16777217

-- the last bytes were read, which no line feed ends
pub record TookLast (left left' : Option (List ℕ)) (total total' : ℕ) (kept : List ℕ) : Type 0 where
  pub taking : TakingLine left left' total total' kept
  pub at_end : IsAtEnd left'
  pub few : total' ≤ 16777216

abbrev pub Took : Bool → Option (List ℕ) → Option (List ℕ) → ℕ → ℕ → List ℕ → Type 0
Took true left left' total total' kept = TookLine left left' total total' kept
Took false left left' total total' kept = TookLast left left' total total' kept

-- No more is read: at the end, or behind the line that ends the session.
abbrev pub TookEnd : Option (List ℕ) → Option (List ℕ) → ℕ → ℕ → List ℕ → Type 0
TookEnd left left' total total' kept =
    TookLast left left' total total' kept ⊎ (TookLine left left' total total' kept × (is_quit kept ≡ true))

-- how many bytes were read where reading ends so
abbrev pub StopsAt : BenchFault → ℕ → Type 0
StopsAt ReadFailed total = total ≤ 16777216
StopsAt WriteFailed total = ⊥
StopsAt Memory total = ⊥
StopsAt ReaderTooLong total = total ≡ 16777217

-- some ended lines were read, none of which ends the session, and their replies written
pub record Answering (n : ℕ) (left left' taken taken' : Option (List ℕ)) (w w' : Beside) (shelf : Shelved) (s : ScenarioData)
    (after : WithShelf) (total : ℕ) : Type 0 where
  pub whole : List (List ℕ)
  pub are_whole : All HasNoLineFeed whole
  pub go_on : All GoesOn (map strip_carriage_return whole)
  pub consumes : Consumes left left' (ended whole)
  pub counts : total ≡ length (ended whole)
  pub out : List ℕ
  pub appends : Appends taken taken' out
  pub tolds : List (List ℕ)
  pub tells : GoOut tolds w w'
  pub are_replies : DeskReplies n (at_first s shelf) (map strip_carriage_return whole) out tolds after

-- all that is to be read was, and all answered but the last line
pub record AnsweredEnded (n : ℕ) (left left' taken taken' : Option (List ℕ)) (w w' : Beside) (shelf : Shelved) (s : ScenarioData)
    (after : WithShelf) (kept : List ℕ) : Type 0 where
  pub between : Option (List ℕ)
  pub total : ℕ
  pub total' : ℕ
  pub answering : Answering n left between taken taken' w w' shelf s after total
  pub took : TookEnd between left' total total' kept

-- the last line, where there is one
abbrev pub last_line : List ℕ → List (List ℕ)
last_line [] = []
last_line (byte ∷ more) = (byte ∷ more) ∷ []

-- the last line was answered, where there is one, and the counts were written
pub record FinishedAll (n : ℕ) (taken taken' : Option (List ℕ)) (w w' : Beside) (d : WithShelf) (kept : List ℕ) (d' : WithShelf) : Type
    0 where
  pub reply : List ℕ
  pub appends : Appends taken taken' (reply ++ done_text d'.desk.tally)
  pub tolds : List (List ℕ)
  pub tells : GoOut tolds w w'
  pub are_replies : DeskReplies n d (last_line kept) reply tolds d'

-- the writer failed after the first bytes of that
pub record FinishedSome (n : ℕ) (taken taken' : Option (List ℕ)) (w w' : Beside) (d : WithShelf) (kept : List ℕ) (shelf' : Shelved) : Type
    0 where
  pub reply : List ℕ
  pub after : WithShelf
  pub shelf_is : shelf' ≡ after.shelf
  pub wrote : WrotePart taken taken' (reply ++ done_text after.desk.tally)
  pub tolds : List (List ℕ)
  pub later : List (List ℕ)
  pub tells : GoOut tolds w w'
  pub are_replies : DeskReplies n d (last_line kept) reply (tolds ++ later) after
