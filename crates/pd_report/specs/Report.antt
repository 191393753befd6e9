-- The text of a transcript: this product's own format, as docs/FORMATS.md has it under Transcript.
use Rattle.std.specs.Prelude.{ℕ, List, [], ◌++◌, ◌==◌, if◌then◌else◌, Option, Some, None, codes, decimal}
use Rattle.std.specs.List.{flat_map}
use Rattle.pd_symbols.specs.Sets.{set_codes}
use Rattle.pd_symbols.specs.declared.channel.OrderedSet.TheVariants.{HardReset}
use Rattle.pd_symbols.specs.declared.channel.Channel.{Channel}
use Rattle.pd_symbols.specs.declared.channel.Channel.TheVariants.{Sop, SopPrime}
use Rattle.pd_header.specs.declared.side.Side.{Side}
use Rattle.pd_header.specs.declared.side.Side.TheVariants.{Source, Sink, Plug}
use Rattle.pd_header.specs.Header.{id_of}
use Rattle.pd_header.specs.Kinds.{kind_of_header, name_of}
use Rattle.pd_packet.specs.declared.fate.Fate.{Fate}
use Rattle.pd_packet.specs.declared.fate.Fate.TheVariants.{Undisturbed, Lost, Damaged}
use Rattle.pd_packet.specs.Contents.{Contents}
use Rattle.pd_packet.specs.Hearing.{shown}
use Rattle.pd_port.specs.declared.entry.Entry.{Entry}
use Rattle.pd_line.specs.declared.notes.Start.{Start}
use Rattle.pd_line.specs.declared.notes.Start.TheVariants as starts
use Rattle.pd_device.specs.Text.{right, code_text}

-- the side that speaks
abbrev pub side_text : Side → List ℕ
side_text Source = codes "src"
side_text Sink = codes "snk"
side_text Plug = codes "cbl"

-- the ordered set
abbrev pub set_text : Channel → List ℕ
set_text Sop = codes " SOP "
set_text SopPrime = codes " SOP' "

-- what becomes of a packet that doesn't arrive
abbrev pub fate_text : Fate → List ℕ
fate_text Undisturbed = []
fate_text Lost = codes " lost"
fate_text (Damaged d) = codes " damaged"

-- The line of a packet that starts: the time right in nine places, the side, the ordered set, the message's name and
-- ID, and the codes, changed where the packet is damaged and all of them where it is lost.
abbrev pub packet_text : ℕ → Side → Contents → Fate → List ℕ
packet_text at side packet fate =
    right at ++ codes " " ++ side_text side ++ set_text packet.channel ++ name_of (kind_of_header packet.header) ++ codes " "
    ++ decimal (id_of packet.header)
    ++ codes ":" ++ flat_map code_text (shown packet fate) ++ fate_text fate ++ codes "\n"

-- the line of a Hard Reset that starts: the time right in nine places, the side, and the four codes
abbrev pub hard_reset_text : ℕ → Side → List ℕ
hard_reset_text at side =
    right at ++ codes " " ++ side_text side ++ codes " HR:" ++ flat_map code_text (set_codes HardReset) ++ codes "\n"

-- the line of what starts at a time, if something does
abbrev pub start_text : ℕ → Option Start → List ℕ
start_text at None = []
start_text at (Some (starts.Packet side packet fate)) = packet_text at side packet fate
start_text at (Some (starts.HardReset side)) = hard_reset_text at side

-- what an entry adds to the transcript of a port, the ports being numbered from 1
unfoldable pub line_of : ℕ → ℕ × Entry → List ℕ
line_of port move = if move.0 == port then start_text move.1.at move.1.start else []

abbrev pub head_text : ℕ → List ℕ
head_text port = codes "= transcript " ++ decimal port ++ codes "\n"

-- a head, and the lines of the entries in their order
unfoldable pub transcript_text : ℕ → List (ℕ × Entry) → List ℕ
transcript_text port moves = head_text port ++ flat_map (line_of port) moves
