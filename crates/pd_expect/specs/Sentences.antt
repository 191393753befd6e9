-- What an expectation says of a run, and when it is met.
use Rattle.std.specs.Prelude.{◌≡◌, ℕ, ◌==◌, ◌&&◌, nat_le, nat_lt, Bool, false, List, if◌then◌else◌, bytes_eq, filter, length}
use Rattle.std.specs.Prelude.{Option, Some, None}
use Rattle.std.specs.Prelude.{not, is_some, unwrap_or}
use Rattle.std.specs.List.{list_any}
use Rattle.pd_header.specs.declared.kind.Kind.{Kind}
use Rattle.pd_header.specs.declared.side.Side.{Side}
use Rattle.pd_header.specs.Kinds.{kind_of_header, name_of}
use Rattle.pd_tell.specs.Words.{side_words}
use Rattle.pd_line.specs.declared.notes.Start.{Start}
use Rattle.pd_line.specs.declared.notes.Start.TheVariants as start
use Rattle.pd_port.specs.declared.entry.Entry.{Entry}
use Rattle.pd_scenario.specs.Limits.{is_port}
use Rattle.pd_scenario.specs.Plan.{Plan}
use Rattle.pd_report.specs.FaultLines.{fault_words}
use Rattle.pd_report.specs.LeastMargin.{IsLeastMargin}
use Rattle.pd_sweep.specs.Summaries.{mishaps_of}
use Rattle.pd_expect.specs.Counted.{counted, notes_of}
use Rattle.pd_expect.specs.Lines.{is_excepted, quoted, words_of}
use Rattle.pd_expect.specs.Low.{IsFirstLow}
use Rattle.pd_expect.specs.OverTime.{IsFirstBreak, Moves}
use Rattle.pd_expect.specs.declared.found.Found.{Found}
use Rattle.pd_expect.specs.declared.found.Found.TheVariants as found
use Rattle.pd_expect.specs.declared.notes.FaultNote.{FaultNote}
use Rattle.pd_expect.specs.declared.lines.Expectation.{Expectation}
use Rattle.pd_expect.specs.declared.lines.Expectation.TheVariants as expect

-- ---- faults

-- such a thing goes wrong on the port, in the words of the show of faults
abbrev pub has_fault : ℕ → List ℕ → ℕ × Entry → Bool
has_fault port words move = move.0 == port && list_any (λ fault. bytes_eq (fault_words fault) words) move.1.faults.items

-- these words, where some are wanted
abbrev pub text_of : Bool → List ℕ → Option (List ℕ)
text_of told text = if told then Some text else None

-- the faults of a port but those that the line excepts, if it excepts any
abbrev pub stays : Bool → List ℕ → FaultNote → Bool
stays but line note = not (but && is_excepted (quoted line) note.fault)

abbrev pub unexcepted : ℕ → Bool → List ℕ → Moves → List FaultNote
unexcepted port but line moves = filter (stays but line) (notes_of (Some port) moves)

-- ---- packets

-- a packet of this side and kind starts
abbrev pub starts : Side → Kind → Option Start → Bool
starts side kind None = false
starts side kind (Some (start.HardReset other)) = false
starts side kind (Some (start.Packet other packet fate)) =
    bytes_eq (side_words other) (side_words side) && bytes_eq (name_of (kind_of_header packet.header)) (name_of kind)

abbrev pub has_packet : ℕ → Side → Kind → ℕ → ℕ → ℕ × Entry → Bool
has_packet port side kind from to move =
    (move.0 == port && (nat_le from move.1.at && nat_le move.1.at to)) && starts side kind move.1.start

-- ---- what a run has of what is expected
abbrev pub IsFound : Plan → Moves → List ℕ → Expectation → Found → Type 0
IsFound plan moves line (expect.Contract port period wants) (found.Contract broken) =
    IsFirstBreak port wants moves period.from (unwrap_or period.to plan.end) broken
IsFound plan moves line (expect.Margin least) (found.Least margin) = IsLeastMargin plan moves margin
IsFound plan moves line (expect.MarginOver period least) (found.Low low) =
    IsFirstLow plan moves least period.from (unwrap_or period.to plan.end) low
IsFound plan moves line expect.NoFaults (found.Faults count) = count ≡ (mishaps_of moves).faults
IsFound plan moves line (expect.NoFault port told period) (found.Faults count) =
    count ≡ length (counted port period (text_of told (words_of (quoted line))) moves)
IsFound plan moves line (expect.FaultsAtMost port most but) (found.Faults count) =
    count ≡ length (unexcepted port but line moves)
IsFound plan moves line (expect.Fault port) (found.Fault there) = there ≡ list_any (has_fault port (words_of (quoted line))) moves
IsFound plan moves line (expect.Packet port side kind from to) (found.Packet there) =
    there ≡ list_any (has_packet port side kind from to) moves
IsFound plan moves line _ _ = ⊥

-- ---- whether that is what is expected

abbrev pub is_met : Expectation → Found → Bool
is_met (expect.Contract port period wants) (found.Contract broken) = not (is_some broken)
is_met (expect.Margin least) (found.Least margin) = nat_le least margin.left
is_met (expect.MarginOver period least) (found.Low low) = not (is_some low)
is_met expect.NoFaults (found.Faults count) = count == 0
is_met (expect.NoFault port told period) (found.Faults count) = count == 0
is_met (expect.FaultsAtMost port most but) (found.Faults count) = nat_le count most
is_met (expect.Fault port) (found.Fault there) = there
is_met (expect.Packet port side kind from to) (found.Packet there) = there
is_met _ _ = false

-- ---- ports

-- the port that an expectation names
abbrev pub port_of : Expectation → Option ℕ
port_of (expect.Contract port period wants) = Some port
port_of (expect.Margin least) = None
port_of (expect.MarginOver period least) = None
port_of expect.NoFaults = None
port_of (expect.NoFault port told period) = port
port_of (expect.FaultsAtMost port most but) = Some port
port_of (expect.Fault port) = Some port
port_of (expect.Packet port side kind from to) = Some port

-- one that isn't there
abbrev pub unknown_port : ℕ → Option ℕ → Option ℕ
unknown_port n None = None
unknown_port n (Some port) = if is_port n port then None else Some port

-- ---- times

-- the last time that an expectation names
abbrev pub last_time : Expectation → Option ℕ
last_time (expect.Contract port period wants) = Some (unwrap_or period.to period.from)
last_time (expect.Margin least) = None
last_time (expect.MarginOver period least) = Some (unwrap_or period.to period.from)
last_time expect.NoFaults = None
last_time (expect.NoFault port told period) = Some (unwrap_or period.to period.from)
last_time (expect.FaultsAtMost port most but) = None
last_time (expect.Fault port) = None
last_time (expect.Packet port side kind from to) = Some to

-- one after the end
abbrev pub late_time : ℕ → Option ℕ → Option ℕ
late_time end None = None
late_time end (Some time) = if nat_lt end time then Some time else None
