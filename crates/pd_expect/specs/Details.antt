-- What is told of an expectation that isn't met, behind what there is in its place: docs/FORMATS.md, "Tests".
use Rattle.std.specs.Prelude.{ℕ, ◌-◌, ◌==◌, ◌&&◌, nat_lt, Bool, List, [], ◌∷◌, ◌++◌, filter, length, take, codes, decimal, is_some}
use Rattle.std.specs.Prelude.{if◌then◌else◌, Option, Some, None}
use Rattle.std.specs.List.{filter_map, last_or}
use Rattle.pd_port.specs.declared.entry.Entry.{Entry}
use Rattle.pd_report.specs.FaultLines.{fault_words}
use Rattle.pd_sweep.specs.Summaries.{makers_at}
use Rattle.pd_sweep.specs.Words.{makers_words}
use Rattle.pd_expect.specs.Counted.{counted, notes_of}
use Rattle.pd_expect.specs.OverTime.{Moves}
use Rattle.pd_expect.specs.Lines.{quoted, words_of}
use Rattle.pd_expect.specs.Sentences.{starts, text_of, unexcepted}
use Rattle.pd_expect.specs.Words.{is_instant}
use Rattle.pd_expect.specs.declared.found.Found.{Found}
use Rattle.pd_expect.specs.declared.found.Found.TheVariants as found
use Rattle.pd_expect.specs.declared.low.Low.{Low}
use Rattle.pd_expect.specs.declared.lines.Expectation.{Expectation}
use Rattle.pd_expect.specs.declared.lines.Expectation.TheVariants as expect
use Rattle.pd_expect.specs.declared.lines.Period.{Period}
use Rattle.pd_expect.specs.declared.over_time.Break.{Break}
use Rattle.pd_expect.specs.declared.near.Near.{Near}
use Rattle.pd_expect.specs.declared.near.Sign.{Sign}
use Rattle.pd_expect.specs.declared.near.Sign.TheVariants as sign
use Rattle.pd_expect.specs.declared.notes.FaultNote.{FaultNote}

-- ---- faults

-- as in the show of faults, with no blanks before the time
unfoldable pub note_words : FaultNote → List ℕ
note_words note = decimal note.at ++ (codes " port " ++ (decimal note.port ++ (32 ∷ fault_words note.fault)))

-- the first behind these words, and each further one behind a comma
unfoldable pub listed : List ℕ → List FaultNote → List ℕ
listed front [] = []
listed front (note ∷ notes) = front ++ (note_words note ++ listed (codes ", ") notes)

abbrev pub most_notes : ℕ
most_notes = 5

-- how many more there are, where there are any
abbrev pub more_words : ℕ → List ℕ
more_words count = if count == 0 then [] else codes " and " ++ (decimal count ++ codes " more")

-- the first five, and how many more there are
abbrev pub first_notes : List FaultNote → List ℕ
first_notes notes = listed (codes ": ") (take most_notes notes) ++ more_words (length notes - most_notes)

abbrev pub other_word : ℕ → List ℕ
other_word count = if count == 1 then codes " other" else codes " others"

unfoldable pub no_other_words : ℕ → List ℕ
no_other_words port = codes ", and no other on port " ++ decimal port

abbrev pub but_words : List FaultNote → List ℕ
but_words notes = codes ", but " ++ (decimal (length notes) ++ (other_word (length notes) ++ first_notes notes))

-- what goes wrong on a port in place of what is expected
abbrev pub others_words : ℕ → List FaultNote → List ℕ
others_words port notes = if length notes == 0 then no_other_words port else but_words notes

-- ---- what is nearest to a range of times

-- the entry is of the port, and its contract changes, or a packet of the side and kind starts; or the contract of any port changes
abbrev pub has_sign : Sign → ℕ × Entry → Bool
has_sign (sign.Change port) move = move.0 == port && is_some move.1.contract
has_sign sign.AnyChange move = is_some move.1.contract
has_sign (sign.Packet port side kind) move = move.0 == port && starts side kind move.1.start

-- when the entry is, where it has the sign
abbrev pub sign_at : Sign → ℕ × Entry → Option ℕ
sign_at what move = if has_sign what move then Some move.1.at else None

-- the times of the entries with the sign, in the run's order
abbrev pub times_of : Sign → Moves → List ℕ
times_of what moves = filter_map (sign_at what) moves

-- the first of some times
abbrev pub first_time : List ℕ → Option ℕ
first_time [] = None
first_time (at ∷ times) = Some at

-- of these times the last before the range, and the first after it
abbrev pub near_of : ℕ → ℕ → List ℕ → Near
near_of from to times = record {
  before = last_or None (filter (λ at. nat_lt at from) times);
  after = first_time (filter (λ at. nat_lt to at) times);
}

-- the times of the entries with the sign that are nearest to the range
abbrev pub nearest : Sign → ℕ → ℕ → Moves → Near
nearest what from to moves = near_of from to (times_of what moves)

-- until when there is this contract, or none, where that changes
abbrev pub until_words : Option ℕ → List ℕ
until_words None = []
until_words (Some at) = codes " until " ++ decimal at

-- which packets of the side and kind are nearest
abbrev pub near_words : Option ℕ → Option ℕ → List ℕ
near_words None None = codes " at any time"
near_words (Some before) None = codes "; the last before is at " ++ decimal before
near_words None (Some after) = codes "; the first after is at " ++ decimal after
near_words (Some before) (Some after) =
    codes "; the last before is at " ++ (decimal before ++ (codes ", the first after at " ++ decimal after))

-- ---- what is told

abbrev pub packet_details : Near → List ℕ
packet_details near = near_words near.before near.after

-- of a margin the ports whose contracts are made at that instant
abbrev pub margin_details : Found → Moves → List ℕ
margin_details (found.Least margin) moves = makers_words (makers_at margin.at moves)
margin_details _ moves = []

-- from when there is another contract than is wanted, where that isn't said by the line
abbrev pub from_words : Period → ℕ → List ℕ
from_words period at = if is_instant period then [] else codes " from " ++ decimal at

-- and until when
abbrev pub first_details : ℕ → Period → Option Break → Moves → List ℕ
first_details port period None moves = []
first_details port period (Some broken) moves =
    from_words period broken.at ++ until_words (nearest (sign.Change port) 0 broken.at moves).after

abbrev pub break_details : ℕ → Period → Found → Moves → List ℕ
break_details port period (found.Contract broken) moves = first_details port period broken moves
break_details port period _ moves = []

-- of a margin over a time the ports whose contracts are made when it is least, and from when and until when it is too little
abbrev pub low_words : Low → Moves → List ℕ
low_words low moves =
    makers_words (makers_at low.least.at moves) ++ (codes ", too little from " ++ (decimal low.at ++ until_words low.until))

abbrev pub first_low_words : Option Low → Moves → List ℕ
first_low_words None moves = []
first_low_words (Some low) moves = low_words low moves

abbrev pub low_details : Found → Moves → List ℕ
low_details (found.Low low) moves = first_low_words low moves
low_details _ moves = []

abbrev pub details : Expectation → List ℕ → Found → Moves → List ℕ
details (expect.Contract port period wants) line what moves = break_details port period what moves
details (expect.Margin least) line what moves = margin_details what moves
details (expect.MarginOver period least) line what moves = low_details what moves
details expect.NoFaults line what moves = first_notes (notes_of None moves)
details (expect.NoFault port told period) line what moves = first_notes (counted port period (text_of told (words_of (quoted line))) moves)
details (expect.FaultsAtMost port most but) line what moves = first_notes (unexcepted port but line moves)
details (expect.Fault port) line what moves = others_words port (notes_of (Some port) moves)
details (expect.Packet port side kind from to) line what moves =
    packet_details (nearest (sign.Packet port side kind) from to moves)
