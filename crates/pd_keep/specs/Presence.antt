-- Which notes a span may have.
use Rattle.std.specs.Prelude.{false, List, All, IsTrue}
use Rattle.pd_run.specs.Notes.{Have}
use Rattle.pd_run.specs.declared.note.Marks.{Marks}
use Rattle.pd_run.specs.declared.note.Note.{Note}
use Rattle.pd_run.specs.declared.note.Note.TheVariants.{Contract, Fault, Packet}
use Rattle.pd_keep.specs.declared.presence.Presence.{Presence}

-- of no moves
abbrev pub nothing : Presence
nothing = record { contract = false; fault = false }

-- some of the moves may leave this note
abbrev pub MayHave : Presence → Note → Type 0
MayHave presence Contract = IsTrue presence.contract
MayHave presence Fault = IsTrue presence.fault
MayHave presence (Packet port) = Unit {0}

-- what one of these marks has is noted
abbrev pub AreNoted : Presence → List Marks → Type 0
AreNoted presence marks = (note : Note) → All (λ m. Have m note → MayHave presence note) marks
