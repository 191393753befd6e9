-- How far a search for a note has come among marks.
use Rattle.std.proofs.Common.{ℕ, ◌<◌, ◌≤◌, List, length, slice_get, IfSome}
use Rattle.std.specs.Prelude.{min}
use Rattle.pd_run.specs.Notes.{Have}
use Rattle.pd_run.specs.declared.note.Note.{Note}
use Rattle.pd_run.specs.declared.note.Marks.{Marks}

-- none from the first place on has it, up to this place
abbrev pub Searched : Note → List Marks → ℕ → ℕ → Type 0
Searched note marks from at = record {
  inside : at ≤ length marks;
  past : min from (length marks) ≤ at;
  none : (i : ℕ) → from ≤ i → i < at → IfSome (slice_get marks i) (λ m. ¬ Have m note);
}
