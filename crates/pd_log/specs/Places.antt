-- At which code a fault shows.
use Rattle.std.specs.Prelude.{ℕ, ◌+◌, ◌-◌, Bool, is_none, List, [], ◌∷◌, length, drop, if◌then◌else◌}
use Rattle.pd_symbols.specs.Codes.{nibble_of}
use Rattle.pd_packet.specs.declared.fault.PacketFault.{PacketFault}
use Rattle.pd_packet.specs.declared.fault.PacketFault.TheVariants as fault

abbrev pub is_no_nibble : ℕ → Bool
is_no_nibble code = is_none (nibble_of code)

-- the codes from the first on that stands for no nibble
abbrev pub from_no_nibble : List ℕ → List ℕ
from_no_nibble [] = []
from_no_nibble (code ∷ more) = if is_no_nibble code then code ∷ more else from_no_nibble more

-- The place of a code, from 1: of an unknown ordered set the first; the first behind the ordered set that stands for no nibble; the
-- last, where they are too few or too many, or where it isn't EOP; and the first of the eight of the check.
abbrev pub place_of : PacketFault → List ℕ → ℕ
place_of fault.Set given = 1
place_of fault.Code given = length given + 1 - length (from_no_nibble (drop 4 given))
place_of fault.Length given = length given
place_of fault.Eop given = length given
place_of fault.Check given = length given - 8
