-- The packet of a line of bytes, low byte first, as a port's registers and a bus's dumps have it: two bytes of header and four of each
-- object.
use Rattle.std.specs.Prelude.{ℕ, suc, ◌+◌, ◌*◌, ◌==◌, ◌&&◌, nat_le, not, Bool, List, [], ◌∷◌, ◌++◌, length, Option, Some, None}
use Rattle.std.specs.Prelude.{if◌then◌else◌}
use Rattle.pd_header.specs.Header.{count_of}
use Rattle.pd_log.specs.declared.answer.LogPacket.{LogPacket}
use Rattle.pd_log.specs.declared.sets.PacketSet.{PacketSet}
use Rattle.pd_log.specs.declared.sets.PacketSet.TheVariants.{Sop}
use Rattle.pd_log.specs.Codes.{or_else, pair_of, without_0x}
use Rattle.pd_log.specs.Messages.{packet_on}
use Rattle.pd_log.specs.Parts.{Parts, ◌>>=◌}
use Rattle.pd_log.specs.Sets.{of_frame}

-- the bytes of hexadecimal digits, two digits each
abbrev pub pairs_of : List ℕ → Option (List ℕ)
pairs_of [] = Some []
pairs_of (high ∷ low ∷ digits) = do
  byte ← pair_of high low
  more ← pairs_of digits
  Some (byte ∷ more)
pairs_of (digit ∷ []) = None

-- the bytes of the parts of a line, as many in each part as it has pairs of digits
abbrev pub bytes_in : Parts → Option (List ℕ)
bytes_in [] = Some []
bytes_in (p ∷ ps) = do
  bytes ← pairs_of (without_0x p)
  more ← bytes_in ps
  Some (bytes ++ more)

-- two bytes, and four, the lowest first
abbrev pub low_first : ℕ → ℕ → ℕ
low_first a b = a + 256 * b

abbrev pub object_low_first : ℕ → ℕ → ℕ → ℕ → ℕ
object_low_first a b c d = low_first a b + 65536 * low_first c d

-- the objects of bytes, four bytes each
abbrev pub objects_of : List ℕ → Option (List ℕ)
objects_of [] = Some []
objects_of (a ∷ b ∷ c ∷ d ∷ bytes) = do
  more ← objects_of bytes
  Some (object_low_first a b c d ∷ more)
objects_of _ = None

-- the header of an extended message, whose highest bit is set, and nothing behind it: there is none, since another header follows
abbrev pub is_cut : ℕ → List ℕ → Bool
is_cut header objects = nat_le 32768 header && length objects == 0

-- a header tells of as many objects as there are
abbrev pub fitting : PacketSet → ℕ → List ℕ → Option LogPacket
fitting set header objects =
    if not (is_cut header objects) && count_of header == length objects
    then Some (packet_on set header objects)
    else None

-- a header and its objects
abbrev pub message_of : PacketSet → List ℕ → Option LogPacket
message_of set (low ∷ high ∷ bytes) = do
  objects ← objects_of bytes
  fitting set (low_first low high) objects
message_of set _ = None

-- how many bytes there are, and these: what a port controller's transmit buffer begins with
abbrev pub counted_of : List ℕ → Option LogPacket
counted_of (count ∷ bytes) = if count == length bytes then message_of Sop bytes else None
counted_of [] = None

-- how many bytes there are, the type of the frame, and the others: what a port controller's receive buffer begins with
abbrev pub framed_of : List ℕ → Option LogPacket
framed_of (count ∷ kind ∷ bytes) = if count == suc (length bytes) then (do
  set ← of_frame kind
  message_of set bytes) else None
framed_of _ = None

abbrev pub packet_of : List ℕ → Option LogPacket
packet_of bytes = or_else (message_of Sop bytes) (or_else (counted_of bytes) (framed_of bytes))

-- the packet of the bytes of a line, alone or behind their count
abbrev pub given_bytes : Parts → Option LogPacket
given_bytes ps = do
  bytes ← bytes_in ps
  packet_of bytes
