-- What entries leave to be shown.
use Rattle.std.specs.Prelude.{◌≡◌, ℕ, ◌<◌, ◌≤◌, min, nat_lt, List, length, slice_get, is_some, IsSome, IfSome, IsTrue}
use Rattle.pd_port.specs.declared.entry.Entry.{Entry}
use Rattle.pd_run.specs.declared.note.Note.{Note}
use Rattle.pd_run.specs.declared.note.Note.TheVariants.{Contract, Fault, Packet}
use Rattle.pd_run.specs.declared.note.Marks.{Marks}

-- an entry leaves a note: it changes the contract of its port; it has a fault; in it something starts on the line of this port
abbrev pub Leaves : Note → ℕ × Entry → Type 0
Leaves Contract move = IsSome move.1.contract
Leaves Fault move = 0 < length move.1.faults.items
Leaves (Packet port) move = (move.0 ≡ port) × IsSome move.1.start

-- none of the entries from one place to another leaves the note, that of the second not included
abbrev pub NoneLeaves : Note → List (ℕ × Entry) → ℕ → ℕ → Type 0
NoneLeaves note moves from to = (i : ℕ) → from ≤ i → i < to → IfSome (slice_get moves i) (λ move. ¬ Leaves note move)

-- the first place from this one on at which an entry leaves the note, or the number of entries where none does
pub record IsNextWith (note : Note) (moves : List (ℕ × Entry)) (from next : ℕ) : Type 0 where
  pub within : next ≤ length moves
  pub not_before : min from (length moves) ≤ next
  pub none_between : NoneLeaves note moves from next
  pub leaves : IfSome (slice_get moves next) (Leaves note)

-- the marks of an entry: what it leaves, and its port
abbrev pub marks_of : ℕ × Entry → Marks
marks_of move = record {
  contract = is_some move.1.contract;
  fault = nat_lt 0 (length move.1.faults.items);
  packet = is_some move.1.start;
  port = move.0;
}

-- the note is among the marks
abbrev pub Have : Marks → Note → Type 0
Have marks Contract = IsTrue marks.contract
Have marks Fault = IsTrue marks.fault
Have marks (Packet port) = IsTrue marks.packet × (marks.port ≡ port)

-- the first place from this one on whose marks have the note, or the number of the marks where none have it
pub record IsNextMarked (note : Note) (marks : List Marks) (from next : ℕ) : Type 0 where
  pub within : next ≤ length marks
  pub not_before : min from (length marks) ≤ next
  pub none_between : (i : ℕ) → from ≤ i → i < next → IfSome (slice_get marks i) (λ m. ¬ Have m note)
  pub has : IfSome (slice_get marks next) (λ m. Have m note)
