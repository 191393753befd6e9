-- The text of the faults of a run: this product's own format and words, as docs/FORMATS.md has them under Faults.
use Rattle.std.specs.Prelude.{ℕ, List, ◌++◌, codes, decimal}
use Rattle.std.specs.List.{flat_map}
use Rattle.pd_header.specs.Kinds.{name_of}
use Rattle.pd_line.specs.declared.notes.Fault.{Fault}
use Rattle.pd_line.specs.declared.notes.Fault.TheVariants.{Ignored, NoGoodCrc, SoftReset, HardReset, SourceDisabled, SinkDisabled}
use Rattle.pd_line.specs.declared.notes.Fault.TheVariants.{CableUnread, Mismatch, Reject, Wait}
use Rattle.pd_port.specs.declared.entry.Entry.{Entry}
use Rattle.pd_report.specs.Report.{side_text}
use Rattle.pd_report.specs.Line.{at_port}

-- the words of a fault
unfoldable pub fault_words : Fault → List ℕ
fault_words (NoGoodCrc side kind) = side_text side ++ codes " no GoodCRC " ++ name_of kind
fault_words (SoftReset side) = codes "soft reset by " ++ side_text side
fault_words (HardReset side) = codes "hard reset by " ++ side_text side
fault_words SourceDisabled = codes "source disabled"
fault_words SinkDisabled = codes "sink disabled"
fault_words CableUnread = codes "cable unread"
fault_words Mismatch = codes "mismatch"
fault_words Reject = codes "reject"
fault_words Wait = codes "wait"
fault_words (Ignored id) = codes "event " ++ decimal id ++ codes " ignored"

-- the line of a fault: its time, its port, numbered from 1, and its words
unfoldable pub fault_text : ℕ → ℕ → Fault → List ℕ
fault_text at port fault = at_port at port ++ fault_words fault ++ codes "\n"

-- the lines of an entry's faults, in the order in which they came
abbrev pub fault_lines : ℕ × Entry → List ℕ
fault_lines move = flat_map (fault_text move.1.at move.0) move.1.faults.items

abbrev pub faults_head : List ℕ
faults_head = codes "= faults\n"

-- a head, and the faults of the entries in their order
unfoldable pub faults_text : List (ℕ × Entry) → List ℕ
faults_text moves = faults_head ++ flat_map fault_lines moves
