-- The faults of a run, and which of them count.
use Rattle.std.specs.Prelude.{ℕ, ◌&&◌, nat_le, Bool, true, List, [], bytes_eq, filter, map, if◌then◌else◌, Option, Some, None}
use Rattle.std.specs.List.{flat_map}
use Rattle.pd_line.specs.declared.notes.Fault.{Fault}
use Rattle.pd_port.specs.declared.entry.Entry.{Entry}
use Rattle.pd_report.specs.FaultLines.{fault_words}
use Rattle.pd_sweep.specs.Choices.{is_of_port}
use Rattle.pd_expect.specs.OverTime.{Moves}
use Rattle.pd_expect.specs.declared.lines.Period.{Period}
use Rattle.pd_expect.specs.declared.notes.FaultNote.{FaultNote}

abbrev pub note_of : ℕ → ℕ → Fault → FaultNote
note_of at port fault = record { at = at; port = port; fault = fault }

-- the faults of an entry, where it is of the port that is asked for; where none is, of any
unfoldable pub notes_at : Option ℕ → ℕ × Entry → List FaultNote
notes_at wanted move = if is_of_port wanted move.0 then map (note_of move.1.at move.0) move.1.faults.items else []

-- those of a run, in its order
abbrev pub notes_of : Option ℕ → Moves → List FaultNote
notes_of wanted moves = flat_map (notes_at wanted) moves

-- no later than an instant, if there is one
abbrev pub is_by : Option ℕ → ℕ → Bool
is_by None at = true
is_by (Some to) at = nat_le at to

abbrev pub is_in : Period → ℕ → Bool
is_in period at = nat_le period.from at && is_by period.to at

-- told in these words in the show of faults, if any are wanted
abbrev pub is_told : Option (List ℕ) → Fault → Bool
is_told None fault = true
is_told (Some text) fault = bytes_eq (fault_words fault) text

abbrev pub counts : Period → Option (List ℕ) → FaultNote → Bool
counts period text note = is_in period note.at && is_told text note.fault

-- those of a port, or of all ports, in the run's order
abbrev pub counted : Option ℕ → Period → Option (List ℕ) → Moves → List FaultNote
counted port period text moves = filter (counts period text) (notes_of port moves)
