-- The ordered sets that begin a packet (USB Power Delivery 3.0, section 5.6), those of the far plug and of debugging, too.
use Rattle.std.specs.Prelude.{ℕ, ◌==◌, ◌||◌, List, [], ◌∷◌, ◌++◌, map, take, drop, codes, bytes_eq, Option, Some, None}
use Rattle.std.specs.Prelude.{if◌then◌else◌}
use Rattle.pd_symbols.specs.declared.channel.Channel.{Channel}
use Rattle.pd_symbols.specs.declared.channel.Channel.TheVariants as channels
use Rattle.pd_symbols.specs.declared.channel.OrderedSet.TheVariants as known
use Rattle.pd_symbols.specs.declared.symbol.KCode.{KCode}
use Rattle.pd_symbols.specs.declared.symbol.KCode.TheVariants.{Sync1, Sync2, Sync3, Rst1, Rst2}
use Rattle.pd_symbols.specs.declared.symbol.Symbol.TheVariants.{K}
use Rattle.pd_symbols.specs.Codes.{code_of}
use Rattle.pd_symbols.specs.Sets.{set_codes, set_symbols}
use Rattle.pd_log.specs.declared.sets.PacketSet.{PacketSet}
use Rattle.pd_log.specs.declared.sets.PacketSet.TheVariants.{Sop, SopPrime, SopDoublePrime, SopPrimeDebug, SopDoublePrimeDebug}

-- the table: the four K-codes of each set
abbrev pub symbols_of : PacketSet → List KCode
symbols_of Sop = set_symbols known.Sop
symbols_of SopPrime = set_symbols known.SopPrime
symbols_of SopDoublePrime = Sync1 ∷ Sync3 ∷ Sync1 ∷ Sync3 ∷ []
symbols_of SopPrimeDebug = Sync1 ∷ Rst2 ∷ Rst2 ∷ Sync3 ∷ []
symbols_of SopDoublePrimeDebug = Sync1 ∷ Rst2 ∷ Sync3 ∷ Sync2 ∷ []

abbrev pub codes_of : PacketSet → List ℕ
codes_of set = map (λ k. code_of (K k)) (symbols_of set)

-- the set that resets the plugs of a cable
abbrev pub cable_reset : List ℕ
cable_reset = map (λ k. code_of (K k)) (Rst1 ∷ Sync1 ∷ Rst1 ∷ Sync3 ∷ [])

-- the standard's name
abbrev pub text_of : PacketSet → List ℕ
text_of Sop = codes "SOP"
text_of SopPrime = codes "SOP'"
text_of SopDoublePrime = codes "SOP''"
text_of SopPrimeDebug = codes "SOP'_Debug"
text_of SopDoublePrimeDebug = codes "SOP''_Debug"

-- whose fields the header of a packet has: a plug's packets tell in place of the roles who sends
abbrev pub channel_of : PacketSet → Channel
channel_of Sop = channels.Sop
channel_of _ = channels.SopPrime

-- the set of a packet between the ports, or of the near plug
abbrev pub near : Channel → PacketSet
near channels.Sop = Sop
near channels.SopPrime = SopPrime

-- the set of the far plug or of debugging with which codes begin
abbrev pub far_in : List ℕ → Option PacketSet
far_in given =
    if bytes_eq (take 4 given) (codes_of SopDoublePrime) then Some SopDoublePrime
    else if bytes_eq (take 4 given) (codes_of SopPrimeDebug) then Some SopPrimeDebug
    else if bytes_eq (take 4 given) (codes_of SopDoublePrimeDebug) then Some SopDoublePrimeDebug
    else None

-- the codes as those of the near plug: what stands behind a set is coded alike in all
abbrev pub as_near : List ℕ → List ℕ
as_near given = set_codes known.SopPrime ++ drop 4 given

-- the set by a name that logs use, in small letters, without the signs between words
abbrev pub named : List ℕ → Option PacketSet
named word =
    if bytes_eq word (codes "sop") then Some Sop
    else if bytes_eq word (codes "sop'") || bytes_eq word (codes "sopprime") then Some SopPrime
    else if bytes_eq word (codes "sop''") || (bytes_eq word (codes "sop\"") || bytes_eq word (codes "sopprimeprime"))
    then Some SopDoublePrime
    else if bytes_eq word (codes "sop'debug") || bytes_eq word (codes "sopdebugprime") then Some SopPrimeDebug
    else if bytes_eq word (codes "sop''debug") || (bytes_eq word (codes "sop\"debug") || bytes_eq word (codes "sopdebugprimeprime"))
    then Some SopDoublePrimeDebug
    else None

-- the set by the number of the type of a frame in a port controller's receive buffer
abbrev pub of_frame : ℕ → Option PacketSet
of_frame kind =
    if kind == 0 then Some Sop
    else if kind == 1 then Some SopPrime
    else if kind == 2 then Some SopDoublePrime
    else if kind == 3 then Some SopPrimeDebug
    else if kind == 4 then Some SopDoublePrimeDebug
    else None
