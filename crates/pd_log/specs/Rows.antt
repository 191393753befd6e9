-- What a row of a table of packets says.
use Rattle.std.specs.Prelude.{ℕ, ◌==◌, ◌&&◌, ◌||◌, nat_le, not, Bool, List, [], ◌∷◌, length, codes, bytes_eq}
use Rattle.std.specs.Prelude.{Option, Some, None, is_some, unwrap_or, if◌then◌else◌}
use Rattle.std.specs.List.{list_all}
use Rattle.pd_log.specs.declared.answer.Answer.{Answer}
use Rattle.pd_log.specs.declared.answer.Answer.TheVariants.{Nothing, Bytes, HardReset, CableReset}
use Rattle.pd_log.specs.declared.columns.Columns.{Columns}
use Rattle.pd_log.specs.declared.mark.Mark.TheVariants.{Whole}
use Rattle.pd_log.specs.declared.sets.PacketSet.{PacketSet}
use Rattle.pd_log.specs.declared.sets.PacketSet.TheVariants.{Sop}
use Rattle.pd_log.specs.Bytes.{bytes_in, low_first, message_of, objects_of}
use Rattle.pd_log.specs.Cells.{cell_at, cells, unreturned}
use Rattle.pd_log.specs.Codes.{or_else, pair_of, without_0x}
use Rattle.pd_log.specs.Messages.{words_answer}
use Rattle.pd_log.specs.Parts.{Parts, ◌>>=◌, parts}
use Rattle.pd_log.specs.Plain.{plain}
use Rattle.pd_log.specs.Sets.{named}
use Rattle.pd_log.specs.Words.{objects_in, short_of}

-- the byte of a part
abbrev pub byte_of : List ℕ → Option ℕ
byte_of (high ∷ low ∷ []) = pair_of high low
byte_of _ = None

-- a header in one to four digits, or in two bytes, the low one first
abbrev pub header_in : Parts → Option ℕ
header_in (p ∷ []) = short_of (without_0x p)
header_in (p ∷ q ∷ []) = do
  low ← byte_of (without_0x p)
  high ← byte_of (without_0x q)
  Some (low_first low high)
header_in _ = None

-- the objects of bytes, low byte first
abbrev pub objects_low_first : Parts → Option (List ℕ)
objects_low_first ps = do
  bytes ← bytes_in ps
  objects_of bytes

-- objects in eight digits each, or in bytes, low byte first
abbrev pub objects_read : Parts → Option (List ℕ)
objects_read ps = or_else (objects_in ps) (objects_low_first ps)

abbrev pub parts_of : Option (List ℕ) → Parts
parts_of None = []
parts_of (Some cell) = parts cell

-- a name of an ordered set in a cell, in its plain form
abbrev pub word_of : Option (List ℕ) → List ℕ
word_of None = []
word_of (Some cell) = plain cell

-- a row whose cell of the set names none is on SOP
abbrev pub set_of : Option (List ℕ) → PacketSet
set_of cell = unwrap_or (named (word_of cell)) Sop

-- a row without a packet
abbrev pub blank_row : List ℕ → Answer
blank_row word =
    if bytes_eq word (codes "hardreset") then HardReset Whole
    else if bytes_eq word (codes "cablereset") then CableReset Whole
    else Nothing

-- a row with a header
abbrev pub header_row : Parts → Option (List ℕ) → Option (List ℕ) → Option Answer
header_row [] set objects = Some (blank_row (word_of set))
header_row (p ∷ ps) set objects = do
  header ← header_in (p ∷ ps)
  read ← objects_read (parts_of objects)
  Some (words_answer (set_of set) header read)

-- a row with a packet in bytes
abbrev pub bytes_row : Parts → Option (List ℕ) → Option Answer
bytes_row [] set = Some (blank_row (word_of set))
bytes_row (p ∷ ps) set = do
  bytes ← bytes_in (p ∷ ps)
  packet ← message_of (set_of set) bytes
  Some (Bytes packet)

-- the column of the header; where there is none, the objects are whole packets
abbrev pub row_in : Columns → List (List ℕ) → Option Answer
row_in columns all = by_header columns.header
  where
    by_header : Option ℕ → Option Answer
    by_header (Some place) = do
      cell ← cell_at (Some place) all
      header_row (parts cell) (cell_at columns.set all) (cell_at columns.objects all)
    by_header None = do
      cell ← cell_at columns.objects all
      bytes_row (parts cell) (cell_at columns.set all)

abbrev pub row_of : Columns → List ℕ → Option Answer
row_of columns line = row_in columns (cells columns.separator (unreturned line))

-- a sign that a JSON string doesn't escape, and that a line shows
abbrev pub is_shown : ℕ → Bool
is_shown c = (nat_le 32 c && nat_le c 126) && not (c == 34 || c == 92)

-- the time of a cell
abbrev pub shown_time : List ℕ → Option (List ℕ)
shown_time cell = if nat_le 1 (length cell) && list_all is_shown cell then Some cell else None

abbrev pub time_in : Columns → List (List ℕ) → Option (List ℕ)
time_in columns all = do
  cell ← cell_at columns.time all
  shown_time cell

-- the time of a row, where a line is one: it has the cell of a packet
abbrev pub row_time : Columns → List ℕ → Option (Option (List ℕ))
row_time columns line = of_row columns (cells columns.separator (unreturned line))
  where
    of_row : Columns → List (List ℕ) → Option (Option (List ℕ))
    of_row columns all = if is_some (cell_at (or_else columns.header columns.objects) all) then Some (time_in columns all) else None
