-- The words in which faults are told: docs/FORMATS.md, "Faults".
use Rattle.std.specs.Prelude.{ℕ, ◌&&◌, ◌||◌, nat_lt, Bool, false, List, [], ◌∷◌, ◌++◌, bytes_eq, codes, Option, Some, None}
use Rattle.std.specs.List.{list_any}
use Rattle.pd_header.specs.declared.side.Side.{Side}
use Rattle.pd_header.specs.declared.side.Side.TheVariants.{Source, Sink, Plug}
use Rattle.pd_header.specs.Kinds.{control_messages, data_messages}
use Rattle.pd_line.specs.declared.notes.Fault.{Fault}
use Rattle.pd_line.specs.declared.notes.Fault.TheVariants.{Ignored, NoGoodCrc, SoftReset, HardReset, SourceDisabled, SinkDisabled}
use Rattle.pd_line.specs.declared.notes.Fault.TheVariants.{CableUnread, Mismatch, Reject, Wait}
use Rattle.pd_edit_lines.specs.Words.{next, number_at, words, ◌>>=◌}
use Rattle.pd_report.specs.FaultLines.{fault_words}

abbrev pub is_told_so : List ℕ → Fault → Bool
is_told_so text fault = bytes_eq (fault_words fault) text

-- the faults of no side
abbrev pub plain_faults : List Fault
plain_faults = SourceDisabled ∷ SinkDisabled ∷ CableUnread ∷ Mismatch ∷ Reject ∷ Wait ∷ []

abbrev pub is_plain : List ℕ → Bool
is_plain text = list_any (is_told_so text) plain_faults

-- a message of the side that has a name wasn't answered
abbrev pub is_unanswered : List ℕ → Side → Bool
is_unanswered text side = list_any (λ kind. is_told_so text (NoGoodCrc side kind)) (control_messages ++ data_messages)

-- the side begins a reset
abbrev pub is_reset : List ℕ → Side → Bool
is_reset text side = is_told_so text (SoftReset side) || is_told_so text (HardReset side)

unfoldable pub is_of_side : List ℕ → Side → Bool
is_of_side text side = is_unanswered text side || is_reset text side

abbrev pub is_of_partner : List ℕ → Bool
is_of_partner text = is_of_side text Sink || is_of_side text Plug

abbrev pub is_of_a_side : List ℕ → Bool
is_of_a_side text = is_of_side text Source || is_of_partner text

-- the number that stands second
abbrev pub second_number : List (List ℕ) → Option ℕ
second_number ws = do
  first ← next ws
  id ← number_at first.1
  Some id.0

-- an event of 32 bits
abbrev pub is_event : List ℕ → Option ℕ → Bool
is_event text None = false
is_event text (Some id) = nat_lt id 4294967296 && is_told_so text (Ignored id)

abbrev pub is_of_one : List ℕ → Bool
is_of_one text = is_of_a_side text || is_event text (second_number (words text))

-- a fault is told so
unfoldable pub is_fault_text : List ℕ → Bool
is_fault_text text = is_plain text || is_of_one text

-- those of which one may be a slip
unfoldable pub short_texts : List (List ℕ)
short_texts =
    codes "source disabled" ∷ codes "sink disabled" ∷ codes "cable unread" ∷ codes "mismatch" ∷ codes "reject" ∷ codes "wait"
    ∷ codes "soft reset by src" ∷ codes "soft reset by snk" ∷ codes "hard reset by src" ∷ codes "hard reset by snk" ∷ []
