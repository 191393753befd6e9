-- What a line of a log says.
use Rattle.std.specs.Prelude.{◌≡◌, ◌≢◌, ℕ, ◌==◌, ◌&&◌, ◌||◌, Bool, true, false, is_some, List, [], ◌∷◌}
use Rattle.std.specs.Prelude.{Option, Some, None, Ok, Err}
use Rattle.pd_symbols.specs.declared.channel.Channel.{Channel}
use Rattle.pd_symbols.specs.declared.channel.OrderedSet.TheVariants as sets
use Rattle.pd_symbols.specs.Sets.{set_codes}
use Rattle.pd_packet.specs.Reading.{Reads}
use Rattle.pd_packet.specs.declared.fault.PacketFault.{PacketFault}
use Rattle.pd_log.specs.declared.mark.Mark.{Mark}
use Rattle.pd_log.specs.declared.answer.Answer.{Answer}
use Rattle.pd_log.specs.declared.answer.Answer.TheVariants.{Nothing, Packet, Bytes, Either, Fault, HardReset, CableReset, Unknown}
use Rattle.pd_log.specs.declared.answer.LogPacket.{LogPacket}
use Rattle.pd_log.specs.declared.begun.TableLine.{TableLine}
use Rattle.pd_log.specs.declared.sets.PacketSet.{PacketSet}
use Rattle.std.specs.Char.{is_ascii_digit}
use Rattle.pd_log.specs.Begun.{BegunData, annotates, begun_behind, goes_on, in_table, table_told}
use Rattle.pd_log.specs.Bytes.{given_bytes}
use Rattle.pd_log.specs.Codes.{or_else}
use Rattle.pd_log.specs.Messages.{words_answer}
use Rattle.pd_log.specs.Parts.{Parts, parts}
use Rattle.pd_log.specs.Sets.{as_near, cable_reset, far_in, near}
use Rattle.pd_log.specs.Stamps.{stamp, unstamped}
use Rattle.pd_log.specs.Forms.{given_codes, tells_nothing}
use Rattle.pd_log.specs.Places.{place_of}
use Rattle.pd_log.specs.Words.{given_words, set_told}

abbrev pub hard_reset : List ℕ
hard_reset = set_codes sets.HardReset

-- the codes that are read: those of the far plug and of debugging as those of the near plug
abbrev pub spelling : List ℕ → Option PacketSet → List ℕ
spelling given None = given
spelling given (Some set) = as_near given

-- the set of a packet that is read
abbrev pub set_of : Option PacketSet → Channel → PacketSet
set_of None channel = near channel
set_of (Some set) channel = set

-- what codes come to that are read so, where they begin with the set of the far plug or of debugging or not
abbrev pub Spells : List ℕ → Option PacketSet → Mark → Answer → Type 0
-- a packet: they spell it
Spells given far mark (Packet p m) = (m ≡ mark) × (p.set ≡ set_of far p.packet.channel) × Reads given (Ok p.packet)
-- the first fault that keeps them from spelling one, and where it shows
Spells given far mark (Fault fault at m) = (m ≡ mark) × Reads given (Err fault) × (at ≡ place_of fault given)
Spells given far mark _ = ⊥

-- the codes of a reset stand alone
abbrev pub IsNoReset : List ℕ → Type 0
IsNoReset given = (given ≢ hard_reset) × (given ≢ cable_reset)

-- what codes come to
abbrev pub Tells : List ℕ → Mark → Answer → Type 0
-- the four of a Hard Reset, and of a reset of the cable's plugs
Tells given mark (HardReset m) = (m ≡ mark) × (given ≡ hard_reset)
Tells given mark (CableReset m) = (m ≡ mark) × (given ≡ cable_reset)
-- a packet, or a fault
Tells given mark answer = IsNoReset given × Spells (spelling given (far_in given)) (far_in given) mark answer

-- What codes come to that are a packet as bytes, too: codes that spell a packet, or are a reset's, are codes; others are bytes.
abbrev pub TellsEither : List ℕ → Mark → Option LogPacket → Answer → Type 0
TellsEither given mark (Some p) (Bytes q) =
    (q ≡ p) × IsNoReset given × (fault : PacketFault) × Reads (spelling given (far_in given)) (Err fault)
TellsEither given mark (Some p) (Fault fault at m) = ⊥
TellsEither given mark bytes answer = Tells given mark answer

-- what a header and objects come to that are a packet as bytes, too: both are told where both fit
abbrev pub with_bytes : Answer → Option LogPacket → Answer
with_bytes (Packet p mark) (Some q) = Either p q
with_bytes answer (Some q) = Bytes q
with_bytes answer None = answer

-- a line of a controller's log names its port first: C0 or C1:
abbrev pub names_port : Parts → Bool
names_port ((c ∷ d ∷ []) ∷ ps) = c == 67 && is_ascii_digit d
names_port ((c ∷ d ∷ e ∷ []) ∷ ps) = c == 67 && (is_ascii_digit d && e == 58)
names_port _ = false

-- a line of a log on something else than packets: it has the log's own time, or names a port
abbrev pub is_of_a_log : List ℕ → Bool
is_of_a_log line = is_some (stamp line) || names_port (parts (unstamped line))

abbrev pub otherwise : Bool → Answer
otherwise true = Nothing
otherwise false = Unknown

-- Codes are read before words, and words before bytes; a line with none is unknown, or a log's on something else.
abbrev pub Comes : Option (List ℕ × Mark) → Option (ℕ × List ℕ) → PacketSet → Option LogPacket → Bool → Answer → Type 0
Comes (Some given) words set bytes other answer = TellsEither given.0 given.1 bytes answer
Comes None (Some words) set bytes other answer = answer ≡ with_bytes (words_answer set words.0 words.1) bytes
Comes None None set bytes other answer = answer ≡ with_bytes (otherwise other) bytes

-- what a line says alone
abbrev pub SaysAlone : Parts → Bool → Answer → Type 0
SaysAlone ps other answer = Comes (given_codes ps) (given_words ps) (set_told ps) (given_bytes ps) other answer

-- A heading and the reply of a session tell nothing. A line may go on with the packet that has begun, or annotate one; else it says what
-- it says alone.
abbrev pub ByTurn : Bool → Option (Answer × Option BegunData) → Option BegunData → Parts → Bool → Answer → Option BegunData → Type 0
ByTurn true on begun ps other answer behind = (answer ≡ Nothing) × (behind ≡ begun)
ByTurn false (Some told) begun ps other answer behind = (answer, behind) ≡ told
ByTurn false None begun ps other answer behind = SaysAlone ps other answer × (behind ≡ begun_behind begun answer)

-- what a line says that is none of a table
abbrev pub SaysOf : Option BegunData → Parts → Bool → Answer → Option BegunData → Type 0
SaysOf begun ps other answer behind =
    ByTurn (tells_nothing ps) (or_else (goes_on begun ps) (annotates begun ps)) begun ps other answer behind

-- a head or a row of a table says what its columns say
abbrev pub ByTable : Option TableLine → Option BegunData → List ℕ → Answer → Option BegunData → Type 0
ByTable (Some told) begun line answer behind = (answer, behind) ≡ table_told begun told
ByTable None begun line answer behind = SaysOf begun (parts (unstamped line)) (is_of_a_log line) answer behind

-- What a line of a log says, where the lines before it have begun a packet or not, and what has begun behind it.
abbrev pub Says : Option BegunData → List ℕ → Answer → Option BegunData → Type 0
Says begun line answer behind = ByTable (in_table begun line) begun line answer behind
