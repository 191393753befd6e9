-- The lines of sigrok-cli's decoder of USB Power Delivery: usb_power_delivery-1: and an annotation, behind its samples or not.
use Rattle.std.specs.Prelude.{ℕ, ◌==◌, ◌&&◌, ◌||◌, Bool, false, List, [], ◌∷◌, take, drop, codes, bytes_eq, Option, Some, None}
use Rattle.std.specs.Prelude.{if◌then◌else◌}
use Rattle.std.specs.List.{list_all}
use Rattle.std.specs.Char.{is_ascii_digit}
use Rattle.pd_log.specs.declared.sets.PacketSet.{PacketSet}
use Rattle.pd_log.specs.declared.sets.PacketSet.TheVariants as sets
use Rattle.pd_log.specs.declared.sniffed.Annotation.{Annotation}
use Rattle.pd_log.specs.declared.sniffed.Annotation.TheVariants.{Set, Header, HardReset, CableReset, Spoiled, Other}
use Rattle.pd_log.specs.Codes.{or_else}
use Rattle.pd_log.specs.Parts.{Parts, ◌>>=◌, next}
use Rattle.pd_log.specs.Words.{four_of}

abbrev pub names_decoder : List ℕ → Bool
names_decoder part = bytes_eq (take 19 part) (codes "usb_power_delivery-")

-- what stands behind the decoder's name
abbrev pub behind_name : Parts → Option Parts
behind_name ps = do
  name ← next ps
  if names_decoder name.0 then Some name.1 else None

abbrev pub is_of_samples : ℕ → Bool
is_of_samples c = is_ascii_digit c || c == 45

-- the samples of an annotation, as 1664-1984, and what stands behind them
abbrev pub samples : Parts → Option (List ℕ × Parts)
samples ps = do
  range ← next ps
  if list_all is_of_samples range.0 then Some range else None

abbrev pub behind_samples : Parts → Option Parts
behind_samples ps = do
  range ← samples ps
  behind_name range.1

-- the annotation
abbrev pub annotation : Parts → Option Parts
annotation ps = or_else (behind_name ps) (behind_samples ps)

-- the samples of a line, as the log's own time
abbrev pub sample_time : Parts → Option (List ℕ)
sample_time ps = do
  range ← samples ps
  behind ← behind_name range.1
  Some range.0

-- the ordered sets as the decoder writes them
abbrev pub set_of : List ℕ → Option PacketSet
set_of part =
    if bytes_eq part (codes "SOP") then Some sets.Sop
    else if bytes_eq part (codes "SOP'") then Some sets.SopPrime
    else if bytes_eq part (codes "SOP\"") then Some sets.SopDoublePrime
    else None

-- SOP' Debug, and SOP" Debug
abbrev pub debug_of : PacketSet → Option PacketSet
debug_of sets.SopPrime = Some sets.SopPrimeDebug
debug_of sets.SopDoublePrime = Some sets.SopDoublePrimeDebug
debug_of _ = None

abbrev pub set_in : Parts → Option PacketSet
set_in (p ∷ []) = set_of p
set_in (p ∷ q ∷ []) = do
  set ← set_of p
  if bytes_eq q (codes "Debug") then debug_of set else None
set_in _ = None

-- H:11a1
abbrev pub header_in : Parts → Option ℕ
header_in (p ∷ []) = if bytes_eq (take 2 p) (codes "H:") then four_of (drop 2 p) else None
header_in _ = None

-- the last part, or this one, where there is none
abbrev pub last_behind : List ℕ → Parts → List ℕ
last_behind last [] = last
last_behind last (p ∷ ps) = last_behind p ps

abbrev pub last_of : Parts → List ℕ
last_of ps = last_behind [] ps

-- the warnings on a packet: Bad CRC, No EOP and Truncated
abbrev pub warns : Parts → Bool
warns (p ∷ []) = bytes_eq p (codes "Truncated")
warns (p ∷ q ∷ ps) =
    (bytes_eq p (codes "Bad") && bytes_eq q (codes "CRC")) || (bytes_eq p (codes "No") && bytes_eq q (codes "EOP"))
warns [] = false

-- an annotation that names neither a set nor a header: #7    (4.246667ms): HRST is a Hard Reset
abbrev pub other_of : Parts → Annotation
other_of ps =
    if warns ps then Spoiled
    else if bytes_eq (last_of ps) (codes "HRST") then HardReset
    else if bytes_eq (last_of ps) (codes "CRST") then CableReset
    else Other

-- what an annotation says
abbrev pub sniffed : Parts → Annotation
sniffed ps = by_set (set_in ps) (header_in ps) (other_of ps)
  where
    by_set : Option PacketSet → Option ℕ → Annotation → Annotation
    by_set (Some set) header rest = Set set
    by_set None (Some header) rest = Header header
    by_set None None rest = rest
